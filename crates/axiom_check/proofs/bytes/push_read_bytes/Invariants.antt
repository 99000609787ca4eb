use Rattle.std.proofs.Common.{◌≡◌, ℕ, List, Some, length}
use Rattle.std.specs.List.{slice_get}
use Rattle.ev_graph.specs.declared.events.EventId.{EventId}
use Rattle.ev_graph.specs.declared.execution.Source.{Source}
use Rattle.ev_graph.specs.Places.{IsDistinct}
use Rattle.axiom_check.specs.Gains.{Gains, Below}
use Rattle.axiom_check.specs.Bytes.{ArePlaces, IsKnown, IsReadSource}
use Rattle.axiom_check.proofs.bytes.push_read_bytes.Given as goal

abbrev pub invariant-loop-k : goal.invariant-loop-k
invariant-loop-k l = (co : List EventId) → IsDistinct co → ArePlaces l.events.accesses.items co (length co) l.places
    → ((k : ℕ) (source : Source) → slice_get l.bytes k ≡ Some source → IsKnown l.events.accesses.items co source)
    → Gains (Below l.bytes (IsReadSource co l.writers.within l.writers.threads l.found.number l.found.access) l.k) l.initial.sources.items l.sources.items
