-- What a search by halves finds among marks.
use Rattle.std.proofs.Common.{◌≡◌, ◌≢◌, ℕ, zero, suc, ◌<◌, ◌≤◌, ◌==◌, ◌||◌, Bool, true, false, List, [], ◌∷◌, length, slice_index_or, Result, Ok, Err, refl, sym, ap, ◌∙◌, inl, inr, arith}
use Rattle.std.specs.List.{AllByRecursion}
use Rattle.std.specs.List.Sorted.{IsSearchInRange, IsBinarySearchResult, IsNonDecreasingBy}
use Rattle.std.specs.Ordering.{nat_cmp, ordering_index}
use Rattle.std.specs.Result.{is_ok}
use Rattle.std.proofs.lemmas.Cmp.{ranked}
use Rattle.std.proofs.lemmas.Bool.Decides.{nat_tests}
use Rattle.x64_syntax.specs.declared.slots.Slot.{Slot}
use Rattle.x64_syntax.specs.declared.slots.SlotKind.{SlotKind}
use Rattle.x64_syntax.specs.declared.slots.SlotKind.TheVariants.{Read, Write, Locked}
use Rattle.fence_place.specs.Marked.{kind_number, slot_key, same_slot, marked, Before, IsSorted}

small : (kind : SlotKind) → kind_number kind < 3
small Read = omega arith
small Write = omega arith
small Locked = omega arith

key_rises : (a b : Slot) → Before a b → slot_key a < slot_key b
key_rises a b (inl lower) = omega (arith, lower, small a.kind, small b.kind)
key_rises a b (inr (same, earlier)) = omega (arith, same, earlier)

same_by_key : (a b : Slot) → same_slot a b ≡ (slot_key a == slot_key b)
same_by_key a b = grind (arith, nat_tests, small a.kind, small b.kind)

behind : (a : Slot) (slots : List Slot) (j : ℕ) (d : Slot) → AllByRecursion (Before a) slots → j < length slots → slot_key a < slot_key (slice_index_or slots j d)
behind a [] j d all low = absurd (omega (arith, low))
behind a (s ∷ slots) zero d all low = key_rises a s all.0
behind a (s ∷ slots) (suc j) d all low = behind a slots j d all.1 (omega (arith, low))

rises : (slots : List Slot) → IsSorted slots → (i j : ℕ) (d : Slot) → i < j → j < length slots → slot_key (slice_index_or slots i d) < slot_key (slice_index_or slots j d)
rises [] sorted i j d lt low = absurd (omega (arith, low))
rises (s ∷ slots) sorted i zero d lt low = absurd (omega (arith, lt))
rises (s ∷ slots) sorted zero (suc j) d lt low = behind s slots j d sorted.0 (omega (arith, low))
rises (s ∷ slots) sorted (suc i) (suc j) d lt low = rises slots sorted.1 i j d (omega (arith, lt)) (omega (arith, low))

found : (slots : List Slot) (slot : Slot) (at : ℕ) → at < length slots → slot_key (slice_index_or slots at slot) ≡ slot_key slot → marked slots slot ≡ true
found [] slot at low same = absurd (omega (arith, low))
found (s ∷ slots) slot zero low same = let here : same_slot s slot ≡ true = same_by_key s slot ∙ grind (arith, nat_tests, same) in ap (λ b. b || marked slots slot) here
found (s ∷ slots) slot (suc at) low same = or_true (same_slot s slot) (marked slots slot) (found slots slot at (omega (arith, low)) same)
  where
    or_true : (a b : Bool) → b ≡ true → (a || b) ≡ true
    or_true true b e = refl
    or_true false b e = e

missed : (slots : List Slot) (slot : Slot) → ((i : ℕ) → i < length slots → slot_key (slice_index_or slots i slot) ≢ slot_key slot) → marked slots slot ≡ false
missed [] slot none = refl
missed (s ∷ slots) slot none =
    let here : same_slot s slot ≡ false = same_by_key s slot ∙ (let other : slot_key s ≢ slot_key slot = none 0 (omega arith) in grind (arith, nat_tests, other)) in
    ap (λ b. b || marked slots slot) here ∙ missed slots slot (λ i low. none (suc i) (omega (arith, low)))

module _ (slots : List Slot) (sorted : IsSorted slots) (slot : Slot) where
  comparisons_rise : IsNonDecreasingBy (λ (s : Slot). ordering_index (nat_cmp (slot_key s) (slot_key slot))) slots
  comparisons_rise i j d le low =
      let keys_rise : slot_key (slice_index_or slots i d) ≤ slot_key (slice_index_or slots j d) = grind (arith, rises slots sorted i j d, λ (same : i ≡ j). ap (λ n. slot_key (slice_index_or slots n d)) same) in
      grind (arith, nat_tests)

  -- a search by keys tells whether the slot is marked
  pub searched : (r : Result ℕ ℕ) → IsSearchInRange r (length slots) → IsBinarySearchResult (λ (s : Slot). nat_cmp (slot_key s) (slot_key slot)) slots r → is_ok r ≡ marked slots slot
  searched (Ok at) low equal = sym (found slots slot at low (ranked _ (slot_key slot) _ (sym (equal slot))))
  searched (Err at) low parted = sym (missed slots slot (λ i within same. other i within same))
    where
      other : (i : ℕ) → i < length slots → slot_key (slice_index_or slots i slot) ≡ slot_key slot → ⊥
      other i within same =
          let lower : i < at → slot_key (slice_index_or slots i slot) < slot_key slot = λ lt. ranked _ (slot_key slot) _ (sym ((parted comparisons_rise).0 i slot (omega arith) lt)) in
          let higher : at ≤ i → slot_key slot < slot_key (slice_index_or slots i slot) = λ le. ranked _ (slot_key slot) _ (sym ((parted comparisons_rise).1 i slot le within)) in
          grind (arith, lower, higher, same)
