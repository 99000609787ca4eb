-- Sorted lists of addresses, each once.
use Rattle.std.proofs.Common.{◌≡◌, ◌↔◌, ◌<◌, ◌≤◌, ◌+◌, ℕ, zero, suc, Bool, List, [], length, get_or, Some, Result, Ok, Err, IsTrue, arith, sym, ap, subst, ◌∙◌, inl, inr}
use Rattle.std.specs.List.{Contains}
use Rattle.std.specs.List.Sorted.{IsPermutation, IsSorted, IsStrictlyIncreasing, IsBinarySearchResult}
use Rattle.std.specs.List.Retain.{IsFiltered, DiffersFromLast}
use Rattle.std.specs.Ordering.{nat_cmp}
use Rattle.std.specs.Result.{is_ok, MatchResult}
use Rattle.std.proofs.lemmas.Option.{slice_get_within, slice_get-get_or, get_or_from_slice_get}
use Rattle.std.proofs.lemmas.List.Sorted.{IsPermutation-sym, Contains-permutation, searched}
use Rattle.std.proofs.lemmas.List.Kept.{Contains-dedup_nat, Contains-from_dedup}
use Rattle.std.proofs.lemmas.List.Filters.{dedup_is}
use Rattle.std.proofs.lemmas.Map.Keys.{IsStrictlyIncreasing-dedup}
use Rattle.std.proofs.lemmas.Bool.{cases_lt}
use lib.Dec.{eqb}
use Rattle.ev_graph.specs.Places.{StandsIn}
use Rattle.cfg_walk.specs.Code.{AreJust, IsIncreasing}

pub contains : (xs : List ℕ) (a : ℕ) → StandsIn xs a → Contains xs a
contains xs a at = (at.0, slice_get_within xs at.0 a at.1, get_or_from_slice_get xs at.0 a a at.1)

pub stands : (xs : List ℕ) (a : ℕ) → Contains xs a → StandsIn xs a
stands xs a at = (at.0, slice_get-get_or xs at.0 a at.1 ∙ ap (λ (x : ℕ). Some x) at.2)

-- what a sort and a dedup leave are the same numbers
same_numbers : (xs ys zs : List ℕ) → IsPermutation xs ys → IsFiltered (DiffersFromLast eqb) [] ys zs → (a : ℕ) → StandsIn zs a ↔ StandsIn xs a
same_numbers xs ys zs moved filtered a =
    let is = dedup_is eqb ys zs filtered in (
      (λ at. stands xs a (Contains-permutation ys xs a (IsPermutation-sym xs ys moved)
          (Contains-from_dedup eqb ys a (subst (λ l. Contains l a) is (contains zs a at))))),
      (λ at. stands zs a (subst (λ l. Contains l a) (sym is) (Contains-dedup_nat ys a (Contains-permutation xs ys a moved (contains xs a at))))),
    )

-- numbers each below the next are each below those behind
rises : (xs : List ℕ) → IsStrictlyIncreasing xs → (i j : ℕ) → i < j → j < length xs → get_or xs i 0 < get_or xs j 0
rises xs steps i zero less within = absurd (omega arith)
rises xs steps i (suc j) less within =
    let e : suc j ≡ j + 1 = omega arith in
    let step : get_or xs j 0 < get_or xs (suc j) 0 = subst (λ k. get_or xs j 0 < get_or xs k 0) (sym e) (steps j (omega arith)) in
    elim (cases_lt i j) [
      | inl before ↦ (let front = rises xs steps i j before (omega arith) in omega (arith, front, step))
      | inr last ↦ (let same : j ≡ i = omega arith in subst (λ k. get_or xs k 0 < get_or xs (suc j) 0) same step)
    ]

increasing : (xs : List ℕ) → IsStrictlyIncreasing xs → IsIncreasing xs
increasing xs steps i j a b less one other =
    let less_than = rises xs steps i j less (slice_get_within xs j b other) in
    let first = get_or_from_slice_get xs i a 0 one in
    let second = get_or_from_slice_get xs j b 0 other in
    omega (arith, less_than, first, second)

-- what a sort and a dedup leave are just the same numbers, in order
pub set_of : (xs ys zs : List ℕ) → IsPermutation xs ys → IsSorted nat_cmp ys → IsFiltered (DiffersFromLast eqb) [] ys zs → AreJust (StandsIn xs) zs
set_of xs ys zs moved sorted filtered = record {
  exact = same_numbers xs ys zs moved filtered;
  sorted = increasing zs (subst IsStrictlyIncreasing (sym (dedup_is eqb ys zs filtered)) (IsStrictlyIncreasing-dedup ys sorted));
}

-- numbers in order do not fall
not_falling : (xs : List ℕ) → IsIncreasing xs → (i j : ℕ) → i ≤ j → j < length xs → get_or xs i 0 ≤ get_or xs j 0
not_falling xs sorted i j le within = elim (cases_lt i j) [
  | inl before ↦
      (let less = sorted i j (get_or xs i 0) (get_or xs j 0) before (slice_get-get_or xs i 0 (omega arith)) (slice_get-get_or xs j 0 within)
      in omega (arith, less))
  | inr last ↦ (let same : j ≡ i = omega arith in subst (λ k. get_or xs i 0 ≤ get_or xs k 0) (sym same) (omega arith))
]

-- a search by halves finds just what is there
pub found : (xs : List ℕ) (x : ℕ) (r : Result ℕ ℕ) (b : Bool) → b ≡ is_ok r → IsBinarySearchResult (λ y. nat_cmp y x) xs r → IsIncreasing xs
    → IsTrue b ↔ StandsIn xs x
found xs x r b is result sorted = by_result r b is (searched xs x r result (not_falling xs sorted))
  where
    by_result : (r : Result ℕ ℕ) (b : Bool) → b ≡ is_ok r
        → MatchResult r (λ i. (i < length xs) × (get_or xs i 0 ≡ x)) (λ i. (i ≤ length xs) × ((k : ℕ) → k < i → get_or xs k 0 < x)
        × ((k : ℕ) → i ≤ k → k < length xs → x < get_or xs k 0))
        → IsTrue b ↔ StandsIn xs x
    by_result (Ok i) b is at =
        ((λ _. (i, slice_get-get_or xs i 0 at.0 ∙ ap (λ (y : ℕ). Some y) at.1)), (λ _. is))
    by_result (Err i) b is gap = (
      (λ holds. absurd (cc)),
      (λ at. let within = slice_get_within xs at.0 x at.1 in
          let read = get_or_from_slice_get xs at.0 x 0 at.1 in
          absurd (elim (cases_lt at.0 i) [
            | inl below ↦ (let less = gap.1 at.0 below in omega (arith, less, read))
            | inr past ↦ (let more = gap.2 at.0 past within in omega (arith, more, read))
          ])),
    )

-- the same list, of what holds just as often
pub just : {P Q : ℕ → Type 0} (xs : List ℕ) → ((a : ℕ) → P a ↔ Q a) → AreJust P xs → AreJust Q xs
just {P} {Q} xs same are = record {
  exact = λ a. ((λ at. (same a).0 ((are.exact a).0 at)), (λ holds. (are.exact a).1 ((same a).1 holds)));
  sorted = are.sorted;
}
