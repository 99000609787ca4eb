use Rattle.axiom_check.specs.Gains.{Gains, Below}
use Rattle.axiom_check.specs.Bytes.{IsByteEdge}
use Rattle.axiom_check.proofs.bytes.push_entry_edges.Given as goal

abbrev pub invariant-loop-k : goal.invariant-loop-k
invariant-loop-k l = Gains (Below l.bytes (IsByteEdge l.events.accesses.items l.within l.entry.read) l.k) l.initial.edges.items l.edges.items
