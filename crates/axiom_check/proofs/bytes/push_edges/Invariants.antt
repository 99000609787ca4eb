use Rattle.axiom_check.specs.Gains.{Gains, Below}
use Rattle.axiom_check.specs.Bytes.{IsEntryEdge}
use Rattle.axiom_check.proofs.bytes.push_edges.Given as goal

abbrev pub invariant-loop-entry : goal.invariant-loop-entry
invariant-loop-entry l = Gains (Below l.rf (IsEntryEdge l.events.accesses.items l.within) l.entry-index) l.initial.edges.items l.edges.items
