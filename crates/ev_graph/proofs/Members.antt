-- What stands in lists joined, mapped and filtered, and lists in which nothing stands twice.
use Rattle.std.proofs.Common.{◌≡◌, zero, suc, Bool, true, false, cond, List, [], ◌∷◌, ◌++◌, map, filter, ◌⊎◌, inl, inr, Some, refl, sym, ◌∙◌, subst, ap, arith}
use Rattle.std.specs.Option.{option_map}
use Rattle.std.proofs.lemmas.Option.{slice_get-map}
use Rattle.ev_graph.specs.Places.{StandsIn, IsDistinct}

pub stands_behind : {A : Type 0} (xs : List A) (x y : A) → StandsIn xs y → StandsIn (x ∷ xs) y
stands_behind xs x y (i, here) = (suc i, here)

pub stands_front : {A : Type 0} (xs ys : List A) (x : A) → StandsIn xs x → StandsIn (xs ++ ys) x
stands_front [] ys x (i, here) = absurd cc
stands_front (y ∷ xs) ys x (zero, here) = (zero, here)
stands_front (y ∷ xs) ys x (suc i, here) = stands_behind (xs ++ ys) y x (stands_front xs ys x (i, here))

pub stands_back : {A : Type 0} (xs ys : List A) (x : A) → StandsIn ys x → StandsIn (xs ++ ys) x
stands_back [] ys x stands = stands
stands_back (y ∷ xs) ys x stands = stands_behind (xs ++ ys) y x (stands_back xs ys x stands)

pub stands_cases : {A : Type 0} (xs ys : List A) (x : A) → StandsIn (xs ++ ys) x → StandsIn xs x ⊎ StandsIn ys x
stands_cases [] ys x stands = inr stands
stands_cases (y ∷ xs) ys x (zero, here) = inl (zero, here)
stands_cases (y ∷ xs) ys x (suc i, here) = elim (stands_cases xs ys x (i, here)) [ inl left ↦ inl (stands_behind xs y x left) | inr right ↦ inr right ]

pub stands_map : {A B : Type 0} (f : A → B) (xs : List A) (x : A) → StandsIn xs x → StandsIn (map f xs) (f x)
stands_map f xs x (i, here) = (i, slice_get-map f xs i ∙ ap (option_map f) here)

pub stands_image : {A B : Type 0} (f : A → B) (xs : List A) (y : B) → StandsIn (map f xs) y → (x : A) × StandsIn xs x × (f x ≡ y)
stands_image f [] y (i, here) = absurd cc
stands_image f (x ∷ xs) y (zero, here) = (x, (zero, refl), cc)
stands_image f (x ∷ xs) y (suc i, here) = let rest = stands_image f xs y (i, here) in (rest.0, stands_behind xs x rest.0 rest.1, rest.2)

pub stands_filter : {A : Type 0} (p : A → Bool) (xs : List A) (x : A) → StandsIn xs x → p x ≡ true → StandsIn (filter p xs) x
stands_filter p [] x (i, here) passes = absurd cc
stands_filter {A} p (y ∷ xs) x (zero, here) passes =
    let same : y ≡ x = cc in
    let test : p y ≡ true = ap p same ∙ passes in
    let Goal : Bool → Type 0 = λ b. StandsIn (cond b (y ∷ filter p xs) (filter p xs)) x in
    subst Goal (sym test) (zero, ap Some same)
stands_filter {A} p (y ∷ xs) x (suc i, here) passes =
    let rest = stands_filter p xs x (i, here) passes in
    let Goal : Bool → Type 0 = λ b. StandsIn (cond b (y ∷ filter p xs) (filter p xs)) x in
    elim (p y) as Goal [ true ↦ stands_behind (filter p xs) y x rest | false ↦ rest ]

kept : {A : Type 0} (p : A → Bool) (xs rest : List A) (x y : A) → p y ≡ true → (StandsIn rest x → StandsIn xs x × (p x ≡ true)) → StandsIn (y ∷ rest) x
    → StandsIn (y ∷ xs) x × (p x ≡ true)
kept p xs rest x y test from (zero, here) = let same : y ≡ x = cc in ((zero, here), ap p (sym same) ∙ test)
kept p xs rest x y test from (suc i, here) = let stood = from (i, here) in (stands_behind xs y x stood.0, stood.1)

pub stands_filtered : {A : Type 0} (p : A → Bool) (xs : List A) (x : A) → StandsIn (filter p xs) x → StandsIn xs x × (p x ≡ true)
stands_filtered p [] x (i, here) = absurd cc
stands_filtered {A} p (y ∷ xs) x stands =
    let Goal : Bool → Type 0 = λ b. p y ≡ b → StandsIn (cond b (y ∷ filter p xs) (filter p xs)) x → StandsIn (y ∷ xs) x × (p x ≡ true) in
    let cases : Goal (p y) = elim (p y) as Goal [
      | true ↦ (λ test at. kept p xs (filter p xs) x y test (λ stood. stands_filtered p xs x stood) at)
      | false ↦ (λ test at. let rest = stands_filtered p xs x at in (stands_behind xs y x rest.0, rest.1))
    ] in
    cases refl stands

-- what stands first stands not again
pub distinct_head : {A : Type 0} (xs : List A) (x : A) → IsDistinct (x ∷ xs) → StandsIn xs x → ⊥
distinct_head xs x distinct (i, here) = let same : zero ≡ suc i = distinct zero (suc i) x refl here in omega arith

pub distinct_tail : {A : Type 0} (xs : List A) (x : A) → IsDistinct (x ∷ xs) → IsDistinct xs
distinct_tail xs x distinct i j y first second = let same : suc i ≡ suc j = distinct (suc i) (suc j) y first second in omega arith

pub distinct_cons : {A : Type 0} (xs : List A) (x : A) → (StandsIn xs x → ⊥) → IsDistinct xs → IsDistinct (x ∷ xs)
distinct_cons xs x fresh distinct zero zero y first second = refl
distinct_cons {A} xs x fresh distinct zero (suc j) y first second = let same : y ≡ x = cc in absurd (fresh (j, rw (← same) second))
distinct_cons {A} xs x fresh distinct (suc i) zero y first second = let same : y ≡ x = cc in absurd (fresh (i, rw (← same) first))
distinct_cons xs x fresh distinct (suc i) (suc j) y first second = ap suc (distinct i j y first second)

pub distinct_join : {A : Type 0} (xs ys : List A) → IsDistinct xs → IsDistinct ys → ((x : A) → StandsIn xs x → StandsIn ys x → ⊥) → IsDistinct (xs ++ ys)
distinct_join [] ys first second apart = second
distinct_join (x ∷ xs) ys first second apart = distinct_cons (xs ++ ys) x
    (λ stands. elim (stands_cases xs ys x stands) [ inl left ↦ distinct_head xs x first left | inr right ↦ apart x (zero, refl) right ])
    (distinct_join xs ys (distinct_tail xs x first) second (λ y left right. apart y (stands_behind xs x y left) right))

-- filtering keeps images distinct
pub distinct_filter : {A B : Type 0} (f : A → B) (p : A → Bool) (xs : List A) → IsDistinct (map f xs) → IsDistinct (map f (filter p xs))
distinct_filter f p [] distinct = distinct
distinct_filter {A} {B} f p (x ∷ xs) distinct =
    let rest = distinct_filter f p xs (distinct_tail (map f xs) (f x) distinct) in
    let Goal : Bool → Type 0 = λ b. IsDistinct (map f (cond b (x ∷ filter p xs) (filter p xs))) in
    elim (p x) as Goal [
      | true ↦ distinct_cons (map f (filter p xs)) (f x) (λ stands. distinct_head (map f xs) (f x) distinct (
          let image = stands_image f (filter p xs) (f x) stands in
          let stood = stands_filtered p xs image.0 image.1 in
          let Stands : B → Type 0 = λ y. StandsIn (map f xs) y in
          subst Stands image.2 (stands_map f xs image.0 stood.0))) rest
      | false ↦ rest
    ]
