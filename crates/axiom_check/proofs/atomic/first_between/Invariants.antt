use Rattle.std.proofs.Common.{◌≡◌, ◌<◌, ℕ, List, Some}
use Rattle.std.specs.List.{slice_get}
use Rattle.ev_graph.specs.declared.events.Access.{Access}
use Rattle.ev_graph.specs.declared.events.AccessKind.TheVariants.{Write}
use Rattle.ev_graph.specs.declared.events.EventId.{EventId}
use Rattle.axiom_check.specs.Atomic.{AreTold, ComesBetween}
use Rattle.axiom_check.proofs.atomic.first_between.Given as goal

abbrev pub invariant-loop-number : goal.invariant-loop-number
invariant-loop-number l = (co : List EventId) (m : ℕ) → AreTold l.events.accesses.items co l.places l.bytes → l.write.kind ≡ Write
    → slice_get l.events.accesses.items m ≡ Some l.write
    → (n : ℕ) → n < l.number → (a : Access) → slice_get l.events.accesses.items n ≡ Some a → ComesBetween co l.bytes l.read l.write a → ⊥
