use Rattle.std.proofs.Common.{◌≡◌, ◌≢◌, ◌<◌, ℕ, List, [], length, Some}
use Rattle.std.specs.List.{slice_get}
use Rattle.ev_graph.specs.declared.events.Access.{Access}
use Rattle.ev_graph.specs.declared.events.EventId.{EventId}
use Rattle.ev_graph.specs.declared.execution.Source.{Source}
use Rattle.axiom_check.specs.Atomic.{AreTold, OverwritesByte}
use Rattle.axiom_check.specs.Bytes.{IsCoTarget}
use Rattle.axiom_check.specs.Gains.{Gains, Below}
use Rattle.axiom_check.proofs.atomic.is_overwritten.Given as goal

abbrev pub invariant-loop-k : goal.invariant-loop-k
invariant-loop-k l = (co : List EventId) → AreTold l.events.accesses.items co l.writes.places.items l.bytes
    → Gains (Below co (IsCoTarget l.events.accesses.items) (length co)) [] l.writes.slots.items
    → (n place : ℕ) (w : Access) → slice_get l.events.accesses.items n ≡ Some w → w.id.thread < 16 → w.id.thread ≢ l.read.id.thread
    → slice_get co place ≡ Some w.id → place < l.end → (k : ℕ) → k < l.k → (source : Source) → slice_get l.bytes k ≡ Some source → OverwritesByte co l.read w k source → ⊥
