-- What a search by halves finds among instructions in the order of their addresses.
use Rattle.std.proofs.Common.{◌≡◌, ◌≢◌, ℕ, zero, suc, ◌<◌, ◌≤◌, ◌==◌, Bool, true, false, List, [], ◌∷◌, map, length, get_or, slice_index_or, Some, None, Result, Ok, Err, refl, sym, ap, ◌∙◌, arith}
use Rattle.std.specs.Prelude.{if◌then◌else◌}
use Rattle.std.specs.List.{slice_get}
use Rattle.std.specs.List.Sorted.{IsSearchInRange, IsBinarySearchResult, IsNonDecreasingBy}
use Rattle.std.specs.Option.{option_map}
use Rattle.std.specs.Ordering.{nat_cmp, ordering_index}
use Rattle.std.specs.Result.{MatchResult}
use Rattle.std.proofs.lemmas.Cmp.{ranked}
use Rattle.std.proofs.lemmas.Bool.Decides.{nat_tests}
use Rattle.std.proofs.lemmas.Option.{slice_get_within, slice_get-get_or, slice_get-map, get_or_from_slice_get}
use Rattle.ev_graph.specs.Places.{StandsIn}
use Rattle.x64_syntax.specs.declared.placed.Placed.{Placed}
use Rattle.cfg_walk.specs.Code.{IsIncreasing}
use Rattle.cfg_walk.specs.Machine.{placed_at}

abbrev pub address_of : Placed → ℕ
address_of p = p.address

-- the first instruction at an address is found
first_at : (placed : List Placed) (a i : ℕ) (p : Placed) → slice_get placed i ≡ Some p → p.address ≡ a
    → ((j : ℕ) (q : Placed) → j < i → slice_get placed j ≡ Some q → q.address ≢ a) → placed_at placed a ≡ Some p
first_at [] a i p at here others = absurd (let none = at in cc)
first_at (q ∷ ps) a zero p at here others = by_test (a == q.address) refl
  where
    by_test : (b : Bool) → (a == q.address) ≡ b → (if b then Some q else placed_at ps a) ≡ Some p
    by_test true e = at
    by_test false e = let same : q.address ≡ p.address = ap address_of (let one : q ≡ p = cc in one) in absurd (grind (arith, nat_tests))
first_at (q ∷ ps) a (suc i) p at here others =
    by_test (a == q.address) refl (first_at ps a i p at here (λ j r less there. others (suc j) r (omega (arith, less)) there))
  where
    by_test : (b : Bool) → (a == q.address) ≡ b → placed_at ps a ≡ Some p → (if b then Some q else placed_at ps a) ≡ Some p
    by_test true e rest = absurd (others zero q (omega arith) refl (grind (arith, nat_tests)))
    by_test false e rest = rest

-- none is found where none is
none_at : (placed : List Placed) (a : ℕ) → ((j : ℕ) (q : Placed) → slice_get placed j ≡ Some q → q.address ≢ a) → placed_at placed a ≡ None
none_at [] a others = refl
none_at (q ∷ ps) a others = by_test (a == q.address) refl (none_at ps a (λ j r there. others (suc j) r there))
  where
    by_test : (b : Bool) → (a == q.address) ≡ b → placed_at ps a ≡ None → (if b then Some q else placed_at ps a) ≡ None
    by_test true e rest = absurd (others zero q refl (grind (arith, nat_tests)))
    by_test false e rest = rest

-- what is found is listed
pub found_listed : (placed : List Placed) (a : ℕ) (p : Placed) → placed_at placed a ≡ Some p → StandsIn placed p
found_listed [] a p found = absurd (cc)
found_listed (q ∷ ps) a p found = by_test (a == q.address) found (found_listed ps a p)
  where
    by_test : (b : Bool) → (if b then Some q else placed_at ps a) ≡ Some p → (placed_at ps a ≡ Some p → StandsIn ps p) → StandsIn (q ∷ ps) p
    by_test true here rest = (zero, here)
    by_test false later rest = let at = rest later in (suc at.0, at.1)

module _ (placed : List Placed) (sorted : IsIncreasing (map address_of placed)) (a : ℕ) where
  there : (i : ℕ) (p : Placed) → slice_get placed i ≡ Some p → slice_get (map address_of placed) i ≡ Some p.address
  there i p at = slice_get-map address_of placed i ∙ ap (option_map address_of) at

  rises : (i j : ℕ) (d : Placed) → i < j → j < length placed → (get_or placed i d).address < (get_or placed j d).address
  rises i j d less within =
      sorted i j _ _ less (there i _ (slice_get-get_or placed i d (omega arith))) (there j _ (slice_get-get_or placed j d within))

  comparisons_rise : IsNonDecreasingBy (λ (p : Placed). ordering_index (nat_cmp p.address a)) placed
  comparisons_rise i j d le within =
      let keys_rise : (get_or placed i d).address ≤ (get_or placed j d).address =
      grind (arith, rises i j d, λ (same : i ≡ j). ap (λ n. (get_or placed n d).address) same) in
      grind (arith, nat_tests)

  -- a search by addresses finds what `placed_at` is
  pub looked_up : (r : Result ℕ ℕ) → IsSearchInRange r (length placed) → IsBinarySearchResult (λ (p : Placed). nat_cmp p.address a) placed r
      → MatchResult r (λ i. (d : Placed) → placed_at placed a ≡ Some (slice_index_or placed i d)) (λ i. placed_at placed a ≡ None)
  looked_up (Ok i) low equal = λ d.
      let here : (get_or placed i d).address ≡ a = ranked _ a _ (sym (equal d)) in
      first_at placed a i (get_or placed i d) (slice_get-get_or placed i d low) here
      (λ j q less at same.
      let lower = sorted j i _ _ less (there j q at) (there i _ (slice_get-get_or placed i d low)) in
      absurd (omega (arith, lower, same, here)))
  looked_up (Err i) low parted = none_at placed a (λ j q at same. other j q at same)
    where
      other : (j : ℕ) (q : Placed) → slice_get placed j ≡ Some q → q.address ≡ a → ⊥
      other j q at same =
          let within = slice_get_within placed j q at in
          let read : get_or placed j q ≡ q = get_or_from_slice_get placed j q q at in
          let is : (get_or placed j q).address ≡ q.address = ap address_of read in
          let lower : j < i → (get_or placed j q).address < a =
          λ lt. ranked _ a _ (sym ((parted comparisons_rise).0 j q (omega arith) lt)) in
          let higher : i ≤ j → a < (get_or placed j q).address =
          λ le. ranked _ a _ (sym ((parted comparisons_rise).1 j q le within)) in
          grind (arith, lower, higher, same, is)
