-- The first and the last of numbers in order.
use Rattle.std.proofs.Common.{◌≡◌, ◌≢◌, ◌<◌, ◌≤◌, ◌-◌, ℕ, zero, suc, Bool, true, false, ◌&&◌, ◌==◌, List, [], ◌∷◌, length, get_or, reverse, inl, inr, Option, Some, None, refl, sym, ap, subst, ◌∙◌, arith}
use Rattle.std.specs.List.{slice_get}
use Rattle.std.proofs.lemmas.List.{get_or-reverse, length-reverse}
use Rattle.std.proofs.lemmas.Option.{slice_get_within, slice_get-get_or, get_or_from_slice_get}
use Rattle.std.proofs.lemmas.Bool.{cases_lt}
use Rattle.std.proofs.lemmas.Bool.Decides.{nat_tests}
use Rattle.ev_graph.specs.Places.{StandsIn}
use Rattle.graph_reach.specs.Reach.{IsFirst}
use Rattle.graph_reach.proofs.CallerLemmas.{first_is, none_is}
use Rattle.cfg_walk.specs.Code.{IsIncreasing}
use Rattle.frame_marks.specs.Lists.{is_none_or}
use Rattle.frame_marks.proofs.Plain.{some_same}

-- the first of a list stands at a place before which nothing has the property
first_place : (P : ℕ → Type 0) (ks : List ℕ) (k : ℕ) → IsFirst P ks (Some k) → (i : ℕ) × (slice_get ks i ≡ Some k) ×
    ((j w : ℕ) → slice_get ks j ≡ Some w → P w → i ≤ j)
first_place P [] k is = absurd (cc)
first_place P (x ∷ ks) k is = elim is [
  | inl here ↦ (zero, sym here.1, λ j w at holds. omega arith)
  | inr later ↦ (let rest = first_place P ks k later.1 in (suc rest.0, rest.1, behind later.0 rest.0 rest.2))
]
  where
    behind : (P x → ⊥) → (i : ℕ) → ((j w : ℕ) → slice_get ks j ≡ Some w → P w → i ≤ j) → (j w : ℕ) → slice_get (x ∷ ks) j ≡ Some w → P w
        → suc i ≤ j
    behind not_x i rest zero w at holds = absurd (not_x (subst P (sym (some_same at)) holds))
    behind not_x i rest (suc j) w at holds = let le = rest j w at holds in omega (arith, le)

-- what stands in a list that is turned round stands in it
turned : (ks : List ℕ) (i a : ℕ) → slice_get (reverse ks) i ≡ Some a → (i < length ks) × (slice_get ks (length ks - 1 - i) ≡ Some a)
turned ks i a at =
    let within : i < length (reverse ks) = slice_get_within (reverse ks) i a at in
    let low : i < length ks = subst (λ n. i < n) (length-reverse ks) within in
    let read : get_or (reverse ks) i 0 ≡ a = get_or_from_slice_get (reverse ks) i a 0 at in
    let same : get_or ks (length ks - 1 - i) 0 ≡ a = sym (get_or-reverse ks i 0 low) ∙ read in
    (low, slice_get-get_or ks (length ks - 1 - i) 0 (omega (arith, low)) ∙ ap (λ (x : ℕ). Some x) same)

turned_back : (ks : List ℕ) (i a : ℕ) → slice_get ks i ≡ Some a → slice_get (reverse ks) (length ks - 1 - i) ≡ Some a
turned_back ks i a at =
    let low : i < length ks = slice_get_within ks i a at in
    let long : length (reverse ks) ≡ length ks = length-reverse ks in
    let j = length ks - 1 - i in
    let back : length ks - 1 - (length ks - 1 - i) ≡ i = omega (arith, low) in
    let read : get_or ks i 0 ≡ a = get_or_from_slice_get ks i a 0 at in
    let same : get_or (reverse ks) (length ks - 1 - i) 0 ≡ a =
    get_or-reverse ks (length ks - 1 - i) 0 (omega (arith, low)) ∙ ap (λ n. get_or ks n 0) back ∙ read in
    slice_get-get_or (reverse ks) (length ks - 1 - i) 0 (omega (arith, low, long)) ∙ ap (λ (x : ℕ). Some x) same

-- numbers in order do not fall
not_falling : (ks : List ℕ) → IsIncreasing ks → (i j a b : ℕ) → i ≤ j → slice_get ks i ≡ Some a → slice_get ks j ≡ Some b → a ≤ b
not_falling ks sorted i j a b le one other = elim (cases_lt i j) [
  | inl before ↦ (let less = sorted i j a b before one other in omega (arith, less))
  | inr last ↦
      (let same : j ≡ i = omega arith in
      let moved : slice_get ks j ≡ slice_get ks i = ap (slice_get ks) same in
      let equal : a ≡ b = some_same (sym one ∙ sym moved ∙ other) in
      omega (arith, equal))
]

module _ (P : ℕ → Type 0) (ks : List ℕ) (sorted : IsIncreasing ks) where
  -- the first is the least
  least : (k : ℕ) → IsFirst P ks (Some k) → (w : ℕ) → StandsIn ks w → P w → k ≤ w
  least k is w at holds =
      let there = first_place P ks k is in
      not_falling ks sorted there.0 at.0 k w (there.2 at.0 w at.1 holds) there.1 at.1

  -- the last is the greatest
  greatest : (k : ℕ) → IsFirst P (reverse ks) (Some k) → (w : ℕ) → StandsIn ks w → P w → w ≤ k
  greatest k is w at holds =
      let there = first_place P (reverse ks) k is in
      let low : at.0 < length ks = slice_get_within ks at.0 w at.1 in
      let le = there.2 (length ks - 1 - at.0) w (turned_back ks at.0 w at.1) holds in
      let place = turned ks there.0 k there.1 in
      not_falling ks sorted at.0 (length ks - 1 - there.0) w k (omega (arith, le, low, place.0)) at.1 place.1

  stands_turned : (w : ℕ) → StandsIn ks w → StandsIn (reverse ks) w
  stands_turned w at = (length ks - 1 - at.0, turned_back ks at.0 w at.1)

  -- where the first and the last are each none or m, each is m
  pub each_is : (m : ℕ) (first last : Option ℕ) → IsFirst P ks first → IsFirst P (reverse ks) last →
      (is_none_or m first && is_none_or m last) ≡ true
      → (w : ℕ) → StandsIn ks w → P w → w ≡ m
  each_is m None last is_first is_last both w at holds = absurd (none_is P ks is_first w at holds)
  each_is m (Some k) None is_first is_last both w at holds = absurd (none_is P (reverse ks) is_last w (stands_turned w at) holds)
  each_is m (Some k) (Some l) is_first is_last both w at holds =
      let low = least k is_first w at holds in
      let high = greatest l is_last w at holds in
      grind (arith, nat_tests, low, high, both)

  by_last : (m : ℕ) (last : Option ℕ) → IsFirst P (reverse ks) last → is_none_or m last ≡ false → (w : ℕ) × StandsIn ks w × P w × (w ≢ m)
  by_last m None is_last other = absurd (cc)
  by_last m (Some l) is_last other =
      let there = first_is P (reverse ks) l is_last in
      let place = turned ks there.0.0 l there.0.1 in
      (l, (length ks - 1 - there.0.0, place.1), there.1, grind (arith, nat_tests, other))

  -- else one is not
  pub other_is : (m : ℕ) (first last : Option ℕ) → IsFirst P ks first → IsFirst P (reverse ks) last →
      (is_none_or m first && is_none_or m last) ≡ false
      → (w : ℕ) × StandsIn ks w × P w × (w ≢ m)
  other_is m None last is_first is_last both = by_last m last is_last both
  other_is m (Some k) last is_first is_last both = by_test (k == m) refl both
    where
      by_test : (b : Bool) → (k == m) ≡ b → (b && is_none_or m last) ≡ false → (w : ℕ) × StandsIn ks w × P w × (w ≢ m)
      by_test false e both = let there = first_is P ks k is_first in (k, there.0, there.1, grind (arith, nat_tests, e))
      by_test true e both = by_last m last is_last both
