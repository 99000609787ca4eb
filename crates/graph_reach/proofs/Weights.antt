-- Sums over lists without doubles.
use Rattle.std.proofs.Common.{◌≡◌, ◌≤◌, ◌+◌, ℕ, zero, suc, List, [], ◌∷◌, ◌++◌, ◌⊎◌, inl, inr, Some, refl, ap, ◌∙◌, take, sum_by, get_or, arith}
use Rattle.std.specs.List.{slice_get}
use Rattle.std.proofs.lemmas.List.{take_more}
use Rattle.std.proofs.lemmas.List.Sums.{sum_by-cons, sum_by-append}
use Rattle.std.proofs.lemmas.Option.{slice_get_within, slice_get-get_or}
use Rattle.ev_graph.specs.Places.{StandsIn, IsDistinct}

-- a list without one of its elements
record Without (weight : ℕ → ℕ) (xs : List ℕ) (x : ℕ) : Type 0 where
  rest : List ℕ
  sum : sum_by weight xs ≡ weight x + sum_by weight rest
  others : (a : ℕ) → StandsIn xs a → (a ≡ x) ⊎ StandsIn rest a

without : (weight : ℕ → ℕ) (xs : List ℕ) (i x : ℕ) → slice_get xs i ≡ Some x → Without weight xs x
without weight [] i x here = absurd (cc)
without weight (y ∷ ys) zero x here =
    let same : y ≡ x = cc in
    record {
      rest = ys;
      sum = sum_by-cons weight y ys ∙ ap (λ (z : ℕ). weight z + sum_by weight ys) same;
      others = λ a at. other a at.0 at.1;
    }
  where
    other : (a i : ℕ) → slice_get (y ∷ ys) i ≡ Some a → (a ≡ x) ⊎ StandsIn ys a
    other a zero there = inl (cc)
    other a (suc i) there = inr (i, there)
without weight (y ∷ ys) (suc i) x here =
    let tail = without weight ys i x here in
    record {
      rest = y ∷ tail.rest;
      sum = let first = sum_by-cons weight y ys in let first_rest = sum_by-cons weight y tail.rest in let of_tail = tail.sum in omega arith;
      others = λ a at. other tail a at.0 at.1;
    }
  where
    other : (tail : Without weight ys x) (a i : ℕ) → slice_get (y ∷ ys) i ≡ Some a → (a ≡ x) ⊎ StandsIn (y ∷ tail.rest) a
    other tail a zero there = inr (zero, there)
    other tail a (suc i) there = elim (tail.others a (i, there)) [
      | inl same ↦ inl same
      | inr at ↦ inr (suc at.0, at.1)
    ]

-- a list without doubles weighs no more than one that has each of its elements
pub sum_within : (weight : ℕ → ℕ) (xs ys : List ℕ) → IsDistinct xs → ((a : ℕ) → StandsIn xs a → StandsIn ys a) → sum_by weight xs ≤ sum_by weight ys
sum_within weight [] ys once among = grind arith
sum_within weight (x ∷ xs) ys once among =
    let at = among x (zero, refl) in
    let taken = without weight ys at.0 x at.1 in
    let rest = sum_within weight xs taken.rest (λ i j a first second. let same = once (suc i) (suc j) a first second in omega arith)
    (λ a in_xs. elim (taken.others a (among a (suc in_xs.0, in_xs.1))) [
      | inl same ↦ let twice = once zero (suc in_xs.0) x refl (in_xs.1 ∙ ap (λ (z : ℕ). Some z) same) in absurd (omega arith)
      | inr stays ↦ stays
    ]) in
    let first = sum_by-cons weight x xs in
    let whole = taken.sum in
    omega arith

-- the sum of a front that is longer by one
pub sum_front_more : (weight : ℕ → ℕ) (xs : List ℕ) (i k : ℕ) → slice_get xs i ≡ Some k → sum_by weight (take (i + 1) xs) ≡ sum_by weight (take i xs) + weight k
sum_front_more weight xs i k here =
    let within = slice_get_within xs i k here in
    let longer = take_more xs i k within in
    let read = slice_get-get_or xs i k within in
    let same : get_or xs i k ≡ k = cc in
    let whole : sum_by weight (take (i + 1) xs) ≡ sum_by weight (take i xs ++ get_or xs i k ∷ []) = ap (sum_by weight) longer in
    let parts = sum_by-append weight (take i xs) (get_or xs i k ∷ []) in
    let one = sum_by-cons weight (get_or xs i k) [] in
    let value : weight (get_or xs i k) ≡ weight k = ap weight same in
    omega arith
