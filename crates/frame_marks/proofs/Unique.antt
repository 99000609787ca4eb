-- Slots in order are told by which slots they are.
use Rattle.std.proofs.Common.{◌≡◌, ◌↔◌, zero, suc, List, [], ◌∷◌, ◌⊎◌, inl, inr, refl, sym, subst, ◌∙◌, arith}
use Rattle.ev_graph.specs.Places.{StandsIn}
use Rattle.x64_syntax.specs.declared.slots.Slot.{Slot}
use Rattle.frame_marks.specs.Marks.{Before, IsInOrder}
use Rattle.frame_marks.proofs.Ordered.{tail_in_order}
use Rattle.frame_marks.proofs.Plain.{some_same, no_some}

-- of two slots one alone comes before the other
one_way : (a b : Slot) → Before a b → Before b a → ⊥
one_way a b (inl less) (inl more) = absurd (omega (arith, less, more))
one_way a b (inl less) (inr same) = let equal = same.0 in absurd (omega (arith, less, equal))
one_way a b (inr same) (inl more) = let equal = same.0 in absurd (omega (arith, more, equal))
one_way a b (inr same) (inr other) = let read = same.1 in let write = other.2 in absurd (cc)

-- what stands behind the first comes after it
behind : (x : Slot) (xs : List Slot) → IsInOrder (x ∷ xs) → (s : Slot) → StandsIn xs s → Before x s
behind x xs sorted s at = sorted 0 (suc at.0) x s (omega arith) refl at.1

first_or_behind : (x : Slot) (xs : List Slot) (s : Slot) → StandsIn (x ∷ xs) s → (x ≡ s) ⊎ StandsIn xs s
first_or_behind x xs s (zero, here) = inl (some_same here)
first_or_behind x xs s (suc i, here) = inr (i, here)

same_first : (x y : Slot) (xs ys : List Slot) → IsInOrder (x ∷ xs) → IsInOrder (y ∷ ys) → StandsIn (y ∷ ys) x → StandsIn (x ∷ xs) y → x ≡ y
same_first x y xs ys one other in_ys in_xs = elim (first_or_behind y ys x in_ys) [
  | inl same ↦ sym same
  | inr later ↦ elim (first_or_behind x xs y in_xs) [
    | inl same ↦ same
    | inr after ↦ absurd (one_way x y (behind x xs one y after) (behind y ys other x later))
  ]
]

-- where the first slots are the same, the others are
in_tail : (x y : Slot) (xs ys : List Slot) → x ≡ y → IsInOrder (x ∷ xs) → (s : Slot) → StandsIn xs s → StandsIn (y ∷ ys) s → StandsIn ys s
in_tail x y xs ys same sorted s in_xs in_ys = elim (first_or_behind y ys s in_ys) [
  | inl here ↦
      (let first : Before s s = subst (λ a. Before a s) (same ∙ here) (behind x xs sorted s in_xs) in
      absurd (one_way s s first first))
  | inr later ↦ later
]

pub same_slots : (xs ys : List Slot) → IsInOrder xs → IsInOrder ys → ((s : Slot) → StandsIn xs s ↔ StandsIn ys s) → xs ≡ ys
same_slots [] [] one other same = refl
same_slots [] (y ∷ ys) one other same = absurd (no_some ((same y).1 (zero, refl)).1)
same_slots (x ∷ xs) [] one other same = absurd (no_some ((same x).0 (zero, refl)).1)
same_slots (x ∷ xs) (y ∷ ys) one other same =
    let first = same_first x y xs ys one other ((same x).0 (zero, refl)) ((same y).1 (zero, refl)) in
    let rest = same_slots xs ys (tail_in_order x xs one) (tail_in_order y ys other) (λ s. (
      (λ at. in_tail x y xs ys first one s at ((same s).0 (suc at.0, at.1))),
      (λ at. in_tail y x ys xs (sym first) other s at ((same s).1 (suc at.0, at.1))),
    )) in
    (λ k. first k ∷ rest k)
