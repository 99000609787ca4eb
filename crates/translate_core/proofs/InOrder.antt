-- Private slots in their order are sorted as marks are.
use Rattle.std.proofs.Common.{◌≡◌, ℕ, zero, suc, List, [], ◌∷◌, Some, slice_get, refl, ap, arith, inl, inr}
use Rattle.std.specs.List.{AllByRecursion}
use Rattle.x64_syntax.specs.declared.slots.Slot.{Slot}
use Rattle.fence_place.specs.Marked.{IsSorted, kind_number}
use Rattle.fence_place.specs.Marked as marks
use Rattle.frame_marks.specs.Marks.{IsInOrder, Before}

-- what holds at each place holds of each
each : {A : Type 0} (P : A → Type 0) (xs : List A) → ((i : ℕ) (x : A) → slice_get xs i ≡ Some x → P x) → AllByRecursion P xs
each P [] at = tt
each P (x ∷ xs) at = (at zero x refl, each P xs (λ i y here. at (suc i) y here))

before : (a b : Slot) → Before a b → marks.Before a b
before a b (inl less) = inl less
before a b (inr (same, read, write)) =
    let first = ap kind_number read in
    let second = ap kind_number write in
    inr (same, omega (arith, first, second))

pub in_order_sorted : (slots : List Slot) → IsInOrder slots → IsSorted slots
in_order_sorted [] ordered = tt
in_order_sorted (slot ∷ slots) ordered = (
  each (marks.Before slot) slots (λ j b here. before slot b (ordered zero (suc j) slot b (omega arith) refl here)),
  in_order_sorted slots (λ i j a b less one other. ordered (suc i) (suc j) a b (omega (arith, less)) one other),
)
