-- How gains add up along a loop.
use Rattle.std.proofs.Common.{◌≡◌, ◌+◌, ◌↔◌, ℕ, zero, suc, List, [], ◌∷◌, ◌++◌, Some, ◌⊎◌, inl, inr, sym, subst, arith}
use Rattle.std.specs.List.{slice_get}
use Rattle.std.proofs.lemmas.Bool.{cases_lt}
use Rattle.ev_graph.specs.Places.{StandsIn}
use Rattle.axiom_check.specs.Gains.{Gains, Below, BelowNumber}

-- what stands in a list with one more element
pub stands_in_push : {X : Type 0} (xs : List X) (y x : X) → StandsIn (xs ++ y ∷ []) x ↔ (StandsIn xs x ⊎ (x ≡ y))
stands_in_push {X} xs y x = (forward xs, backward xs) where
  forward : (xs : List X) → StandsIn (xs ++ y ∷ []) x → StandsIn xs x ⊎ (x ≡ y)
  forward [] (zero, here) = inr cc
  forward [] (suc i, here) = absurd cc
  forward (z ∷ xs) (zero, here) = inl (0, here)
  forward (z ∷ xs) (suc i, here) = elim (forward xs (i, here)) [ inl found ↦ inl (suc found.0, found.1) | inr same ↦ inr same ]

  backward : (xs : List X) → StandsIn xs x ⊎ (x ≡ y) → StandsIn (xs ++ y ∷ []) x
  backward [] (inl (i, here)) = absurd cc
  backward [] (inr same) = (0, cc)
  backward (z ∷ xs) (inl (zero, here)) = (0, here)
  backward (z ∷ xs) (inl (suc i, here)) = let found = backward xs (inl (i, here)) in (suc found.0, found.1)
  backward (z ∷ xs) (inr same) = let found = backward xs (inr same) in (suc found.0, found.1)

pub gains_none : {X : Type 0} (P : X → Type 0) (xs : List X) → ((x : X) → P x → ⊥) → Gains P xs xs
gains_none P xs none = record { told = λ x. ((λ there. inl there), (λ either. elim either [ inl there ↦ there | inr holds ↦ absurd (none x holds) ])) }

pub gains_push : {X : Type 0} (P : X → Type 0) (xs new : List X) (y : X) → new ≡ xs ++ y ∷ [] → ((x : X) → P x ↔ (x ≡ y)) → Gains P xs new
gains_push {X} P xs new y is at = record {
  told = λ x. (
    (λ there. let StandsHere : List X → Type 0 = λ l. StandsIn l x in
        elim ((stands_in_push xs y x).0 (subst StandsHere is there)) [ inl old ↦ inl old | inr same ↦ inr ((at x).1 same) ]),
    (λ either. let StandsHere : List X → Type 0 = λ l. StandsIn l x in
        subst StandsHere (sym is) ((stands_in_push xs y x).1 (elim either [ inl old ↦ inl old | inr holds ↦ inr ((at x).0 holds) ]))),
  );
}

pub gains_then : {X : Type 0} (P Q S : X → Type 0) (old mid new : List X) → Gains P old mid → Gains Q mid new
    → ((x : X) → S x → P x ⊎ Q x) → ((x : X) → P x → S x) → ((x : X) → Q x → S x) → Gains S old new
gains_then P Q S old mid new first second split left right = record {
  told = λ x. (
    (λ there. elim ((second.told x).0 there) [
      | inl mid_there ↦ elim ((first.told x).0 mid_there) [ inl old_there ↦ inl old_there | inr holds ↦ inr (left x holds) ]
      | inr holds ↦ inr (right x holds)
    ]),
    (λ either. elim either [
      | inl old_there ↦ (second.told x).1 (inl ((first.told x).1 (inl old_there)))
      | inr holds ↦ elim (split x holds) [ inl p ↦ (second.told x).1 (inl ((first.told x).1 (inr p))) | inr q ↦ (second.told x).1 (inr q) ]
    ]),
  );
}

pub gains_as : {X : Type 0} (P Q : X → Type 0) (old new : List X) → Gains P old new → ((x : X) → P x → Q x) → ((x : X) → Q x → P x) → Gains Q old new
gains_as P Q old new gains to from = record {
  told = λ x. (
    (λ there. elim ((gains.told x).0 there) [ inl old_there ↦ inl old_there | inr holds ↦ inr (to x holds) ]),
    (λ either. elim either [ inl old_there ↦ (gains.told x).1 (inl old_there) | inr holds ↦ (gains.told x).1 (inr (from x holds)) ]),
  );
}

pub gains_zero : {I X : Type 0} (ys : List I) (F : ℕ → I → X → Type 0) (xs : List X) → Gains (Below ys F 0) xs xs
gains_zero ys F xs = gains_none (Below ys F 0) xs (λ x below. let less = below.2 in omega arith)

below_split : {I X : Type 0} (ys : List I) (F : ℕ → I → X → Type 0) (k : ℕ) (y : I) → slice_get ys k ≡ Some y
    → (x : X) → Below ys F (k + 1) x → Below ys F k x ⊎ F k y x
below_split {I} {X} ys F k y here x (i, z, less, there, holds) = elim (cases_lt i k) [
  | inl before ↦ inl (i, z, before, there, holds)
  | inr after ↦ (let same : i ≡ k = omega arith in
      let At : ℕ → Type 0 = λ j. slice_get ys j ≡ Some z in
      let moved = subst At same there in
      let is : z ≡ y = cc in
      let Holds : ℕ → Type 0 = λ j. F j z x in
      let HoldsOf : I → Type 0 = λ w. F k w x in
      inr (subst HoldsOf is (subst Holds same holds)))
]

-- one more turn of a loop over a slice
pub gains_more : {I X : Type 0} (ys : List I) (F : ℕ → I → X → Type 0) (k : ℕ) (y : I) (old now new : List X) → slice_get ys k ≡ Some y
    → Gains (Below ys F k) old now → Gains (F k y) now new → Gains (Below ys F (k + 1)) old new
gains_more ys F k y old now new here before turn = gains_then (Below ys F k) (F k y) (Below ys F (k + 1)) old now new before turn
    (below_split ys F k y here)
    (λ x (i, z, less, there, holds). (i, z, (omega arith), there, holds))
    (λ x holds. (k, y, (omega arith), here, holds))

-- one more turn of a loop over numbers
pub gains_more_number : {X : Type 0} (F : ℕ → X → Type 0) (k : ℕ) (old now new : List X)
    → Gains (BelowNumber F k) old now → Gains (F k) now new → Gains (BelowNumber F (k + 1)) old new
gains_more_number {X} F k old now new before turn = gains_then (BelowNumber F k) (F k) (BelowNumber F (k + 1)) old now new before turn
    (λ x (t, less, holds). elim (cases_lt t k) [
      | inl earlier ↦ inl (t, earlier, holds)
      | inr later ↦ (let same : t ≡ k = omega arith in let Holds : ℕ → Type 0 = λ j. F j x in inr (subst Holds same holds))
    ])
    (λ x (t, less, holds). (t, (omega arith), holds))
    (λ x holds. (k, (omega arith), holds))

-- over all numbers below 0, nothing is gained
pub gains_no_number : {X : Type 0} (F : ℕ → X → Type 0) (xs : List X) → Gains (BelowNumber F 0) xs xs
gains_no_number F xs = gains_none (BelowNumber F 0) xs (λ x below. let less = below.1 in omega arith)

-- what two calls gain, one behind the other
pub gains_both : {X : Type 0} (P Q : X → Type 0) (old mid new : List X) → Gains P old mid → Gains Q mid new → Gains (λ x. P x ⊎ Q x) old new
gains_both P Q old mid new first second = gains_then P Q (λ x. P x ⊎ Q x) old mid new first second (λ x either. either) (λ x holds. inl holds) (λ x holds. inr holds)
