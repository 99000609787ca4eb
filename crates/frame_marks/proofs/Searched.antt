-- What a search by halves finds among instructions in the order of their addresses.
use Rattle.std.proofs.Common.{◌≡◌, ◌<◌, ◌≤◌, ◌==◌, ℕ, zero, suc, Bool, true, false, List, [], ◌∷◌, map, length, Some, None, Result, Ok, Err, refl, sym, ap, ◌∙◌, subst, arith}
use Rattle.std.specs.Prelude.{if◌then◌else◌}
use Rattle.std.specs.List.{slice_get, slice_index_or}
use Rattle.std.specs.List.Sorted.{IsSearchInRange, IsBinarySearchResult, IsNonDecreasingBy}
use Rattle.std.specs.Ordering.{nat_cmp, ordering_index}
use Rattle.std.proofs.lemmas.Cmp.{ranked}
use Rattle.std.proofs.lemmas.Option.{slice_get_within, slice_get-get_or, get_or_from_slice_get}
use Rattle.std.proofs.lemmas.Bool.Decides.{nat_tests}
use Rattle.x64_syntax.specs.declared.placed.Placed.{Placed}
use Rattle.cfg_walk.specs.Code.{IsIncreasing}
use Rattle.cfg_walk.specs.Machine.{placed_at}
use Rattle.frame_marks.specs.Lists.{address_of}
use Rattle.frame_marks.proofs.Plain.{some_same}

-- an element of a list gives one of the mapped list
pub map_get : {A B : Type 0} (f : A → B) (xs : List A) (i : ℕ) (x : A) → slice_get xs i ≡ Some x → slice_get (map f xs) i ≡ Some (f x)
map_get f [] i x at = absurd (cc)
map_get f (y ∷ xs) zero x at = ap (λ z. Some (f z)) (some_same at)
map_get f (y ∷ xs) (suc i) x at = map_get f xs i x at

pub tail_sorted : (q : Placed) (ps : List Placed) → IsIncreasing (map address_of (q ∷ ps)) → IsIncreasing (map address_of ps)
tail_sorted q ps sorted i j a b less one other = sorted (suc i) (suc j) a b (omega (arith, less)) one other

-- of instructions in order, each is the one that is found at its address
pub at_place : (placed : List Placed) (i : ℕ) (p : Placed) → IsIncreasing (map address_of placed) → slice_get placed i ≡ Some p
    → placed_at placed p.address ≡ Some p
at_place [] i p sorted at = absurd (cc)
at_place (q ∷ ps) zero p sorted at = by_test (p.address == q.address) refl
  where
    same : q ≡ p
    same = some_same at

    by_test : (b : Bool) → (p.address == q.address) ≡ b → (if b then Some q else placed_at ps p.address) ≡ Some p
    by_test true e = at
    by_test false e = let one : q.address ≡ p.address = ap (λ (o : Placed). o.address) same in absurd (grind (arith, nat_tests))
at_place (q ∷ ps) (suc i) p sorted at = by_test (p.address == q.address) refl (at_place ps i p (tail_sorted q ps sorted) at)
  where
    less : q.address < p.address
    less = sorted 0 (suc i) q.address p.address (omega arith) refl (map_get address_of ps i p at)

    by_test : (b : Bool) → (p.address == q.address) ≡ b → placed_at ps p.address ≡ Some p →
        (if b then Some q else placed_at ps p.address) ≡ Some p
    by_test true e rest = absurd (let lower = less in grind (arith, nat_tests))
    by_test false e rest = rest

-- where none of them has an address, nothing is found there
pub none_at : (placed : List Placed) (address : ℕ) → ((i : ℕ) (p : Placed) → slice_get placed i ≡ Some p → p.address ≡ address → ⊥)
    → placed_at placed address ≡ None
none_at [] address none = refl
none_at (q ∷ ps) address none = by_test (address == q.address) refl (none_at ps address (λ i p at. none (suc i) p at))
  where
    by_test : (b : Bool) → (address == q.address) ≡ b → placed_at ps address ≡ None → (if b then Some q else placed_at ps address) ≡ None
    by_test true e rest = absurd (none 0 q refl (grind (arith, nat_tests)))
    by_test false e rest = rest

module _ (placed : List Placed) (sorted : IsIncreasing (map address_of placed)) (address : ℕ) where
  rises : (i j : ℕ) (d : Placed) → i < j → j < length placed → address_of (slice_index_or placed i d) < address_of
      (slice_index_or placed j d)
  rises i j d less within =
      sorted i j _ _ less (map_get address_of placed i _ (slice_get-get_or placed i d (omega (arith, less, within))))
      (map_get address_of placed j _ (slice_get-get_or placed j d within))

  comparisons_rise : IsNonDecreasingBy (λ (p : Placed). ordering_index (nat_cmp (address_of p) address)) placed
  comparisons_rise i j d le low =
      let keys_rise : address_of (slice_index_or placed i d) ≤ address_of (slice_index_or placed j d) =
      grind (arith, rises i j d, λ (same : i ≡ j). ap (λ n. address_of (slice_index_or placed n d)) same) in
      grind (arith, nat_tests)

  -- a search for the address finds the instruction there
  pub found : (r : Result ℕ ℕ) (at : ℕ) (d : Placed) → r ≡ Ok at → IsSearchInRange r (length placed) → IsBinarySearchResult
      (λ (p : Placed). nat_cmp (address_of p) address) placed r
      → Some (slice_index_or placed at d) ≡ placed_at placed address
  found (Ok n) at d is low equal =
      let same : n ≡ at = cc in
      let here : address_of (slice_index_or placed n d) ≡ address = ranked _ address _ (sym (equal d)) in
      let there = at_place placed n (slice_index_or placed n d) sorted (slice_get-get_or placed n d low) in
      subst (λ m. Some (slice_index_or placed m d) ≡ placed_at placed address) same
      (sym (subst (λ a. placed_at placed a ≡ Some (slice_index_or placed n d)) here there))
  found (Err n) at d is low parted = absurd (cc)

  -- or that there is none
  pub missed : (r : Result ℕ ℕ) (at : ℕ) → r ≡ Err at → IsSearchInRange r (length placed) → IsBinarySearchResult
      (λ (p : Placed). nat_cmp (address_of p) address) placed r
      → None ≡ placed_at placed address
  missed (Ok n) at is low equal = absurd (cc)
  missed (Err n) at is low parted = sym (none_at placed address other)
    where
      other : (i : ℕ) (p : Placed) → slice_get placed i ≡ Some p → p.address ≡ address → ⊥
      other i p there same =
          let within = slice_get_within placed i p there in
          let read : slice_index_or placed i p ≡ p = get_or_from_slice_get placed i p p there in
          let here : address_of (slice_index_or placed i p) ≡ address = ap address_of read ∙ same in
          let lower : i < n → address_of (slice_index_or placed i p) < address = λ lt. ranked _ address _
          (sym ((parted comparisons_rise).0 i p (omega arith) lt)) in
          let higher : n ≤ i → address < address_of (slice_index_or placed i p) = λ le. ranked _ address _
          (sym ((parted comparisons_rise).1 i p le within)) in
          grind (arith, lower, higher, here)
