use Rattle.std.proofs.Common.{◌≡◌, ◌<◌, ℕ, List, Some}
use Rattle.std.specs.List.{slice_get}
use Rattle.ev_graph.specs.declared.events.EventId.{EventId}
use Rattle.ev_graph.specs.declared.execution.Source.{Source}
use Rattle.ev_graph.specs.declared.execution.Source.TheVariants.{From}
use Rattle.axiom_check.specs.Atomic.{AreTold, OverwritesByte}
use Rattle.axiom_check.specs.Bytes.{IsFrom}
use Rattle.axiom_check.proofs.atomic.overwrites.Given as goal

abbrev pub invariant-loop-k : goal.invariant-loop-k
invariant-loop-k l = (co : List EventId) → AreTold l.events.accesses.items co l.places l.bytes → IsFrom co (From l.write.id) l.behind
    → (k : ℕ) → k < l.k → (source : Source) → slice_get l.bytes k ≡ Some source → OverwritesByte co l.read l.write k source → ⊥
