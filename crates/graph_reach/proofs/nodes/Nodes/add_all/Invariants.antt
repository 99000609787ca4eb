use Rattle.std.proofs.Common.{take}
use Rattle.graph_reach.specs.Nodes.{Adds}
use Rattle.graph_reach.proofs.nodes.Nodes.add_all.Given as goal

abbrev pub invariant-loop-node : goal.invariant-loop-node
invariant-loop-node l = Adds l.fn.self (take l.node-index l.more) l.self
