-- Instructions in the order of their addresses.
use Rattle.std.proofs.Common.{◌≡◌, ◌<◌, ◌≤◌, ℕ, zero, suc, false, List, [], ◌∷◌, get_or, nat_eq, Some, map, refl, ap, ◌∙◌, arith}
use Rattle.std.specs.List.{slice_get, Contains, AllByRecursion}
use Rattle.std.specs.List.{IsDistinct as IsDistinctBy}
use Rattle.std.specs.List.Sorted.{IsPermutation, IsNonDecreasingBy}
use Rattle.std.proofs.lemmas.Option.{slice_get_within, slice_get-get_or, get_or_from_slice_get}
use Rattle.std.proofs.lemmas.List.Sorted.{IsPermutation-sym, IsPermutation-map, Contains-permutation}
use Rattle.std.proofs.lemmas.Map.Keys.{IsDistinct-IsPermutation}
use Rattle.std.proofs.lemmas.Bool.Decides.{nat_tests}
use Rattle.ev_graph.specs.Places.{StandsIn, IsDistinct}
use Rattle.graph_reach.proofs.CallerLemmas.{distinct_places}
use Rattle.x64_syntax.specs.declared.placed.Placed.{Placed}
use Rattle.code_at.specs.Code.{Program}
use Rattle.cfg_walk.specs.Code.{AreInstructions, IsIncreasing}
use Rattle.cfg_walk.specs.Searching.{AreFound, address_of}

contains : {A : Type 0} (xs : List A) (x : A) → StandsIn xs x → Contains xs x
contains xs x at = (at.0, slice_get_within xs at.0 x at.1, get_or_from_slice_get xs at.0 x x at.1)

stands : {A : Type 0} (xs : List A) (x : A) → Contains xs x → StandsIn xs x
stands xs x at = (at.0, slice_get-get_or xs at.0 x at.1 ∙ ap Some at.2)

-- what stands in a list stands in it in another order
moved : {A : Type 0} (xs ys : List A) (x : A) → IsPermutation xs ys → StandsIn xs x → StandsIn ys x
moved xs ys x order at = stands ys x (Contains-permutation xs ys x order (contains xs x at))

all_differ : (x : ℕ) (xs : List ℕ) → ((i y : ℕ) → slice_get xs i ≡ Some y → x ≡ y → ⊥) → AllByRecursion (λ y. nat_eq x y ≡ false) xs
all_differ x [] apart = tt
all_differ x (y ∷ ys) apart = (differs x y (apart 0 y refl), all_differ x ys (λ i z at. apart (suc i) z at))
  where
    differs : (a b : ℕ) → (a ≡ b → ⊥) → nat_eq a b ≡ false
    differs a b apart = grind (arith, nat_tests)

-- numbers that stand at one place each are distinct by their test
distinct_test : (xs : List ℕ) → IsDistinct xs → IsDistinctBy nat_eq xs
unfolding IsDistinctBy
distinct_test [] once = tt
distinct_test (x ∷ xs) once = (
  all_differ x xs (λ i y at same. absurd (zero_suc i (once 0 (suc i) y (ap Some same) at))),
  distinct_test xs (λ i j y one other. suc_same i j (once (suc i) (suc j) y one other)),
)
  where
    zero_suc : (i : ℕ) → 0 ≡ suc i → ⊥
    zero_suc i e = absurd (omega (arith, e))

    suc_same : (i j : ℕ) → suc i ≡ suc j → i ≡ j
    suc_same i j e = omega (arith, e)

flips : (x y : ℕ) → nat_eq x y ≡ nat_eq y x
flips x y = grind (arith, nat_tests)

moved_distinct : (xs ys : List ℕ) → IsPermutation xs ys → IsDistinct xs → IsDistinct ys
moved_distinct xs ys order once = distinct_places ys (IsDistinct-IsPermutation nat_eq flips xs ys order (distinct_test xs once))

get-map : {A B : Type 0} (f : A → B) (xs : List A) (i : ℕ) (b : B) → slice_get (map f xs) i ≡ Some b → (a : A) × (slice_get xs i ≡ Some a) × (f a ≡ b)
get-map f [] i b at = absurd (let nothing = at in cc)
get-map f (x ∷ xs) zero b at = (x, refl, some_same at)
  where
    some_same : {B : Type 0} {u v : B} → Some u ≡ Some v → u ≡ v
    some_same e = cc
get-map f (x ∷ xs) (suc i) b at = get-map f xs i b at

-- keys that don't fall and are distinct rise
rising : (placed : List Placed) → IsNonDecreasingBy address_of placed → IsDistinct (map address_of placed) → IsIncreasing (map address_of placed)
rising placed falls_never once i j a b less one other =
    let p = get-map address_of placed i a one in
    let q = get-map address_of placed j b other in
    let within = slice_get_within placed j q.0 q.1 in
    let first = get_or_from_slice_get placed i p.0 q.0 p.1 in
    let second = get_or_from_slice_get placed j q.0 q.0 q.1 in
    let le = falls_never i j q.0 (omega (arith, less)) within in
    let at_first : address_of (get_or placed i q.0) ≡ a = ap address_of first ∙ p.2 in
    let at_second : address_of (get_or placed j q.0) ≡ b = ap address_of second ∙ q.2 in
    let apart : a ≡ b → ⊥ = λ same. let e = once i j b (one ∙ ap Some same) other in absurd (omega (arith, e, less)) in
    by_order a b (omega (arith, le, at_first, at_second)) apart
  where
    by_order : (a b : ℕ) → a ≤ b → (a ≡ b → ⊥) → a < b
    by_order a b le apart = grind arith

-- instructions that were found, sorted by their addresses
pub sorted_are : (program : Program) (placed sorted : List Placed) → IsPermutation placed sorted → IsNonDecreasingBy address_of sorted → AreFound program placed → AreInstructions program sorted
sorted_are program placed sorted order falls_never found = record {
  exact = λ p. (
    (λ at. (found.exact p).0 (moved sorted placed p (IsPermutation-sym placed sorted order) at)),
    (λ is. moved placed sorted p order ((found.exact p).1 is)),
  );
  sorted = rising sorted falls_never (moved_distinct (map address_of placed) (map address_of sorted) (IsPermutation-map address_of placed sorted order) found.once);
}
