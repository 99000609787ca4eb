use Rattle.std.proofs.Common.{◌≡◌, ◌<◌, ℕ, List, [], length, Some}
use Rattle.std.specs.List.{slice_get}
use Rattle.ev_graph.specs.declared.events.EventId.{EventId}
use Rattle.ev_graph.specs.declared.execution.ReadFrom.{ReadFrom}
use Rattle.axiom_check.specs.Atomic.{AreFew, AreTold, IsWhole}
use Rattle.axiom_check.specs.Bytes.{IsCoTarget}
use Rattle.axiom_check.specs.Gains.{Gains, Below}
use Rattle.axiom_check.proofs.atomic.first_triple.Given as goal

abbrev pub invariant-loop-entry : goal.invariant-loop-entry
invariant-loop-entry l = (co : List EventId)
    → ((e : ℕ) (entry : ReadFrom) → slice_get l.rf e ≡ Some entry → AreTold l.events.accesses.items co l.writes.places.items entry.bytes)
    → AreFew l.events.accesses.items → Gains (Below co (IsCoTarget l.events.accesses.items) (length co)) [] l.writes.slots.items
    → (d : ℕ) → d < l.entry-index → (other : ReadFrom) → slice_get l.rf d ≡ Some other → IsWhole l.events.accesses.items co other
