-- Members of a list of numbers, by tests and by places.
use Rattle.std.proofs.Common.{◌≡◌, ◌<◌, ℕ, List, length, Bool, true, false, ◌⊎◌, inl, inr, Option, Some, None, IsTrue, ◌↔◌, refl, sym, ap, ◌∙◌, get_or, nat_eq, arith}
use Rattle.std.specs.List.{slice_get, list_any, position, position_or_len}
use Rattle.std.specs.List.{IsDistinct as IsDistinctBy}
use Rattle.std.proofs.lemmas.Option.{slice_get_within, slice_get-get_or, get_or_from_slice_get, cond_some}
use Rattle.std.specs.Option.{IfSome, IfNone, is_some}
use Rattle.std.proofs.lemmas.List.Sums.{passes_at_first, fails_before_first}
use Rattle.std.proofs.lemmas.Map.Keys.{apart_from_distinct}
use Rattle.std.proofs.lemmas.Map.Views.{list_any-from_Contains, Contains-from_any, exact_unsigned_eq}
use Rattle.std.specs.Cmp.{nat_eq_equiv}
use Rattle.std.proofs.lemmas.Bool.Decides.{nat_tests}
use Rattle.ev_graph.specs.Places.{StandsIn, IsDistinct}

-- what a test finds stands in the list, and the other way
pub stands_from_any : (ks : List ℕ) (k : ℕ) → list_any (nat_eq k) ks ≡ true → StandsIn ks k
stands_from_any ks k found =
    let at = Contains-from_any exact_unsigned_eq k ks found in
    (at.0, slice_get-get_or ks at.0 k at.1 ∙ ap (λ (x : ℕ). Some x) at.2)

pub any_from_stands : (ks : List ℕ) (k : ℕ) → StandsIn ks k → list_any (nat_eq k) ks ≡ true
any_from_stands ks k at = list_any-from_Contains nat_eq_equiv k ks (at.0, slice_get_within ks at.0 k at.1, get_or_from_slice_get ks at.0 k k at.1)

-- keys that are distinct by their test stand at one place each
pub distinct_places : (ks : List ℕ) → IsDistinctBy nat_eq ks → IsDistinct ks
distinct_places ks apart i j x first second =
    let cases : (i < j) ⊎ ((i ≡ j) ⊎ (j < i)) = grind arith in
    let at_i = slice_get_within ks i x first in
    let at_j = slice_get_within ks j x second in
    let is_i = get_or_from_slice_get ks i x x first in
    let is_j = get_or_from_slice_get ks j x x second in
    elim cases [
      | inl less ↦ let differ = apart_from_distinct nat_eq ks i j x apart less at_j in absurd (differ_from_itself x (get_or ks i x) (get_or ks j x) is_i is_j differ)
      | inr rest ↦ elim rest [
        | inl same ↦ same
        | inr more ↦ let differ = apart_from_distinct nat_eq ks j i x apart more at_i in absurd (differ_from_itself x (get_or ks j x) (get_or ks i x) is_j is_i differ)
      ]
    ]
  where
    differ_from_itself : (x a b : ℕ) → a ≡ x → b ≡ x → nat_eq a b ≡ false → ⊥
    differ_from_itself x a b is_a is_b differ = grind (arith, nat_tests)

-- the place at which a number is found
pub place_some : (ks : List ℕ) (k i : ℕ) → position (nat_eq k) ks ≡ Some i → slice_get ks i ≡ Some k
place_some ks k i found =
    let first = position_or_len (nat_eq k) ks in
    let at = cond_some _ first i found in
    let passes_there = at.0 in
    let within : first < length ks = grind (arith, nat_tests) in
    let is = exact_unsigned_eq k (get_or ks first k) (passes_at_first (nat_eq k) ks k within) in
    let read = slice_get-get_or ks first k within in
    let moved : slice_get ks first ≡ slice_get ks i = ap (slice_get ks) at.1 in
    cc

-- no place before it has the number
pub place_first : (ks : List ℕ) (k i : ℕ) → position (nat_eq k) ks ≡ Some i → (j : ℕ) → j < i → slice_get ks j ≡ Some k → ⊥
place_first ks k i found j less here =
    let first = position_or_len (nat_eq k) ks in
    let at = cond_some _ first i found in
    let is = at.1 in
    let fails = fails_before_first (nat_eq k) ks j k (omega arith) in
    let read = get_or_from_slice_get ks j k k here in
    let differ : nat_eq k k ≡ false = ap (nat_eq k) (sym read) ∙ fails in
    grind (arith, nat_tests)

-- what the search for a place answers
pub place_answers : (ks : List ℕ) (k : ℕ) (r : Option ℕ) → r ≡ position (nat_eq k) ks → IfSome r (λ i. slice_get ks i ≡ Some k)
place_answers ks k None is = tt
place_answers ks k (Some i) is = place_some ks k i (sym is)

pub first_answers : (ks : List ℕ) (k : ℕ) (r : Option ℕ) → r ≡ position (nat_eq k) ks → IfSome r (λ i. (j : ℕ) → j < i → slice_get ks j ≡ Some k → ⊥)
first_answers ks k None is = tt
first_answers ks k (Some i) is = place_first ks k i (sym is)

pub absent_answers : (ks : List ℕ) (k : ℕ) (r : Option ℕ) → is_some r ≡ list_any (nat_eq k) ks → IfNone r (StandsIn ks k → ⊥)
absent_answers ks k None is = λ at. let found = any_from_stands ks k at in absurd (cc)
absent_answers ks k (Some i) is = tt

-- a test of membership
pub member_answers : (ks : List ℕ) (k : ℕ) (found : Bool) → found ≡ list_any (nat_eq k) ks → IsTrue found ↔ StandsIn ks k
member_answers ks k true is = ((λ so. stands_from_any ks k (sym is)), (λ at. refl))
member_answers ks k false is = ((λ so. absurd (cc)), (λ at. let there = any_from_stands ks k at in absurd (cc)))
