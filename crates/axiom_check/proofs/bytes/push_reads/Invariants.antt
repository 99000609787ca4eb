use Rattle.std.proofs.Common.{List, length}
use Rattle.ev_graph.specs.declared.events.EventId.{EventId}
use Rattle.ev_graph.specs.Places.{IsDistinct}
use Rattle.axiom_check.specs.Gains.{Gains, Below}
use Rattle.axiom_check.specs.Bytes.{ArePlaces, AreSourcesKnown, IsEntrySource}
use Rattle.axiom_check.proofs.bytes.push_reads.Given as goal

abbrev pub invariant-loop-entry : goal.invariant-loop-entry
invariant-loop-entry l = (co : List EventId) → IsDistinct co → ArePlaces l.events.accesses.items co (length co) l.places → AreSourcesKnown l.events.accesses.items co l.rf
    → Gains (Below l.rf (IsEntrySource l.events.accesses.items co l.writers.within l.writers.threads) l.entry-index) l.initial.sources.items l.sources.items
