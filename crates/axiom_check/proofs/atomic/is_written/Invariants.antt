use Rattle.std.proofs.Common.{◌≡◌, ◌≢◌, ◌<◌, ◌≤◌, ℕ}
use Rattle.ev_graph.specs.Places.{StandsIn}
use Rattle.axiom_check.specs.declared.lanes.Slot.{Slot}
use Rattle.axiom_check.specs.Bytes.{key}
use Rattle.axiom_check.proofs.atomic.is_written.Given as goal

abbrev pub invariant-loop-thread : goal.invariant-loop-thread
invariant-loop-thread l = (thread : ℕ) → thread < l.thread → (place : ℕ) (slot : Slot) → thread ≢ l.own → l.from ≤ place → place < l.end → StandsIn l.slots slot
    → slot.key ≡ key l.byte thread place → ⊥
