use Rattle.graph_reach.specs.Backwards.{lists_of}
use Rattle.graph_reach.specs.Turning.{AreEmpty}
use Rattle.graph_reach.proofs.backwards.empty_lists.Given as goal

abbrev pub invariant-loop : goal.invariant-loop
invariant-loop l = AreEmpty l.counter (lists_of l.lists.items)
