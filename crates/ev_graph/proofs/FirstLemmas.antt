-- The first of a list that is not absent, of lists joined end to end.
use Rattle.std.proofs.Common.{◌≡◌, ◌≤◌, ◌<◌, ◌+◌, ℕ, zero, suc, List, [], ◌∷◌, ◌++◌, map, length, get_or, ◌⊎◌, inl, inr, Option, Some, None, refl, sym, ◌∙◌, subst, ap, arith}
use Rattle.std.specs.List.{slice_get, flat_map, range_with_len}
use Rattle.std.specs.Option.{option_map}
use Rattle.std.proofs.lemmas.Option.{slice_get_within, slice_get-get_or, slice_get_read}
use Rattle.ev_graph.specs.Places.{StandsIn}
use Rattle.ev_graph.specs.Faults.{IsFirstPresent}

-- none is present where all are absent
pub none_present : {K : Type 0} (Absent : K → Type 0) (ks : List K) → ((k : K) → StandsIn ks k → Absent k) → IsFirstPresent Absent ks None
none_present Absent [] absent = refl
none_present Absent (k ∷ ks) absent = inr (absent k (0, refl), none_present Absent ks (λ other stands. absent other (suc stands.0, stands.1)))

-- all are absent where none is present
pub all_absent : {K : Type 0} (Absent : K → Type 0) (ks : List K) → IsFirstPresent Absent ks None → (i : ℕ) (k : K) → slice_get ks i ≡ Some k → Absent k
all_absent Absent [] first i k here = absurd cc
all_absent Absent (other ∷ ks) (inl (present, is)) i k here = absurd cc
all_absent Absent (other ∷ ks) (inr (absent, rest)) zero k here = let same : other ≡ k = cc in subst Absent same absent
all_absent Absent (other ∷ ks) (inr (absent, rest)) (suc i) k here = all_absent Absent ks rest i k here

-- there is one first
pub same_first : {K : Type 0} (Absent : K → Type 0) (ks : List K) (found other : Option K) → IsFirstPresent Absent ks found → IsFirstPresent Absent ks other → found ≡ other
same_first Absent [] found other first second = cc
same_first Absent (k ∷ ks) found other (inl (present, is)) (inl (also, was)) = cc
same_first Absent (k ∷ ks) found other (inl (present, is)) (inr (absent, rest)) = absurd (present absent)
same_first Absent (k ∷ ks) found other (inr (absent, rest)) (inl (present, is)) = absurd (present absent)
same_first Absent (k ∷ ks) found other (inr (absent, rest)) (inr (also, more)) = same_first Absent ks found other rest more

-- what is first in front is first
pub first_front : {K : Type 0} (Absent : K → Type 0) (ks more : List K) (found : K) → IsFirstPresent Absent ks (Some found) → IsFirstPresent Absent (ks ++ more) (Some found)
first_front Absent [] more found first = absurd cc
first_front Absent (k ∷ ks) more found (inl (present, is)) = inl (present, is)
first_front Absent (k ∷ ks) more found (inr (absent, rest)) = inr (absent, first_front Absent ks more found rest)

-- where none is present in front, the first stands behind
pub first_behind : {K : Type 0} (Absent : K → Type 0) (ks more : List K) (found : Option K) → IsFirstPresent Absent ks None → IsFirstPresent Absent more found
    → IsFirstPresent Absent (ks ++ more) found
first_behind Absent [] more found none first = first
first_behind Absent (k ∷ ks) more found (inl (present, is)) first = absurd cc
first_behind Absent (k ∷ ks) more found (inr (absent, rest)) first = inr (absent, first_behind Absent ks more found rest first)

-- lists joined: the first of the first list that has one
pub first_joined : {X K : Type 0} (Absent : K → Type 0) (f : X → List K) (xs : List X) (i : ℕ) (x : X) (found : K)
    → ((j : ℕ) (y : X) → j < i → slice_get xs j ≡ Some y → IsFirstPresent Absent (f y) None)
    → slice_get xs i ≡ Some x → IsFirstPresent Absent (f x) (Some found) → IsFirstPresent Absent (flat_map f xs) (Some found)
first_joined Absent f [] i x found before here first = absurd cc
first_joined {X} {K} Absent f (y ∷ xs) zero x found before here first =
    let same : x ≡ y = cc in
    let At : X → Type 0 = λ z. IsFirstPresent Absent (f z) (Some found) in
    first_front Absent (f y) (flat_map f xs) found (subst At same first)
first_joined Absent f (y ∷ xs) (suc i) x found before here first =
    first_behind Absent (f y) (flat_map f xs) (Some found) (before 0 y (omega arith) refl)
    (first_joined Absent f xs i x found (λ j z less there. before (suc j) z (omega arith) there) here first)

-- lists joined, none of which has one
pub none_joined : {X K : Type 0} (Absent : K → Type 0) (f : X → List K) (xs : List X)
    → ((j : ℕ) (y : X) → slice_get xs j ≡ Some y → IsFirstPresent Absent (f y) None) → IsFirstPresent Absent (flat_map f xs) None
none_joined Absent f [] none = refl
none_joined Absent f (y ∷ xs) none =
    first_behind Absent (f y) (flat_map f xs) None (none 0 y refl) (none_joined Absent f xs (λ j z there. none (suc j) z there))

-- a list of images
pub first_images : {X K : Type 0} (Absent : K → Type 0) (f : X → K) (xs : List X) (found : Option X)
    → IsFirstPresent (λ x. Absent (f x)) xs found → IsFirstPresent Absent (map f xs) (option_map f found)
first_images Absent f [] found first = ap (option_map f) first
first_images Absent f (x ∷ xs) found (inl (present, is)) = inl (present, ap (option_map f) is)
first_images Absent f (x ∷ xs) found (inr (absent, rest)) = inr (absent, first_images Absent f xs found rest)

-- what stands in a range
pub range_at : (a n j : ℕ) (k : ℕ) → slice_get (range_with_len a n) j ≡ Some k → (j < n) × (k ≡ a + j)
range_at a zero j k here = absurd cc
range_at a (suc n) zero k here = (omega arith, (let same : k ≡ a = cc in omega arith))
range_at a (suc n) (suc j) k here = let rest = range_at (a + 1) n j k here in (let less = rest.0 in omega arith, (let is = rest.1 in omega arith))

pub range_has : (a n j : ℕ) → j < n → slice_get (range_with_len a n) j ≡ Some (a + j)
range_has a zero j less = absurd (omega arith)
range_has a (suc n) zero less = let e : a ≡ a + 0 = omega arith in ap Some e
range_has a (suc n) (suc j) less = let e : a + 1 + j ≡ a + suc j = omega arith in range_has (a + 1) n j (omega arith) ∙ ap Some e

-- one more element, as at a step of a loop
pub step_at : {X : Type 0} (P : X → Type 0) (xs : List X) (i : ℕ) (x : X) → slice_get xs i ≡ Some x
    → ((j : ℕ) (y : X) → j < i → slice_get xs j ≡ Some y → P y) → P x → (j : ℕ) (y : X) → j < i + 1 → slice_get xs j ≡ Some y → P y
step_at {X} P xs i x here before holds j y less there =
    let cases : (j < i) ⊎ (j ≡ i) = grind arith in
    elim cases [
      | inl earlier ↦ before j y earlier there
      | inr same ↦ (let moved : slice_get xs i ≡ Some y = rw (← same) there in let is : x ≡ y = cc in subst P is holds)
    ]

-- lists joined, none of which has one, as a loop ends
pub joined_end : {X K : Type 0} (Absent : K → Type 0) (f : X → List K) (xs : List X) (i : ℕ) → length xs ≤ i
    → ((j : ℕ) (y : X) → j < i → slice_get xs j ≡ Some y → IsFirstPresent Absent (f y) None) → IsFirstPresent Absent (flat_map f xs) None
joined_end Absent f xs i past before = none_joined Absent f xs (λ j y here. let within = slice_get_within xs j y here in before j y (omega arith) here)

-- what reading the same list gives stands there
pub read_at : {X : Type 0} (xs ys : List X) (k : ℕ) (d : X) → xs ≡ ys → k < length ys → slice_get ys k ≡ Some (get_or xs k d)
read_at {X} xs ys k d same within =
    let At : List X → Type 0 = λ zs. slice_get ys k ≡ Some (get_or zs k d) in
    subst At (sym same) (slice_get-get_or ys k d within)

-- the same list is as long
pub within_same : {X : Type 0} (xs ys : List X) (k : ℕ) → xs ≡ ys → k < length xs → k < length ys
within_same {X} xs ys k same within = let At : List X → Type 0 = λ zs. k < length zs in subst At same within

pub past_same : {X : Type 0} (xs ys : List X) (k : ℕ) → xs ≡ ys → length xs ≤ k → length ys ≤ k
past_same {X} xs ys k same past = let At : List X → Type 0 = λ zs. length zs ≤ k in subst At same past

-- the item of a loop over the same list stands there
pub item_at : {X : Type 0} (xs ys : List X) (k : ℕ) (x : X) → xs ≡ ys → k < length xs → x ≡ get_or xs k x → slice_get ys k ≡ Some x
item_at {X} xs ys k x same within is =
    let At : List X → Type 0 = λ zs. slice_get zs k ≡ Some x in
    subst At same (slice_get_read xs (length xs) k x refl within is)
