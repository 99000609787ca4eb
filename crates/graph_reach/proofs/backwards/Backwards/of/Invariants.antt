use Rattle.graph_reach.specs.Backwards.{lists_of}
use Rattle.graph_reach.specs.Turning.{TurnedUpTo}
use Rattle.graph_reach.proofs.backwards.Backwards.of.Given as goal

abbrev pub invariant-loop-node : goal.invariant-loop-node
invariant-loop-node g l = TurnedUpTo (g.G.Graph.successors_of l.graph) l.nodes l.node-index (lists_of l.from.items)
