-- The line at a place, as the first of those that are left.
use Rattle.std.proofs.Common.{◌≡◌, ℕ, zero, suc, ◌+◌, ◌<◌, ◌≤◌, List, [], ◌∷◌, length, drop, Option, Some, None, refl, sym, ap, ◌∙◌, arith}
use Rattle.std.specs.Prelude.{slice_get}

-- the first of a list
abbrev pub first_of : {A : Type 0} → List A → Option A
first_of [] = None
first_of (x ∷ xs) = Some x

pub first-drop : {A : Type 0} (xs : List A) (i : ℕ) → slice_get xs i ≡ first_of (drop i xs)
first-drop [] zero = refl
first-drop [] (suc i) = refl
first-drop (x ∷ xs) zero = refl
first-drop (x ∷ xs) (suc i) = first-drop xs i

-- nothing less a few is nothing
drop-nil : {A : Type 0} (i : ℕ) → (let none : List A = [] in drop i none ≡ none)
drop-nil zero = refl
drop-nil (suc i) = refl

-- first some are left out, and then some more
pub drop-drop : {A : Type 0} (xs : List A) (i j : ℕ) → drop j (drop i xs) ≡ drop (i + j) xs
drop-drop {A} [] i j = ap (λ (l : List A). drop j l) (drop-nil {A = A} i) ∙ drop-nil {A = A} j ∙ sym (drop-nil {A = A} (i + j))
drop-drop {A} (x ∷ xs) zero j = ap (λ n. drop n (x ∷ xs)) (let e : j ≡ 0 + j = omega arith in e)
drop-drop {A} (x ∷ xs) (suc i) j = drop-drop xs i j ∙ ap (λ n. drop n (x ∷ xs)) (let e : suc (i + j) ≡ suc i + j = omega arith in e)

-- where nothing is left behind a place, the place is behind the end
pub drop_none : {A : Type 0} (xs : List A) (i : ℕ) → drop i xs ≡ [] → length xs ≤ i
drop_none [] i none = omega arith
drop_none (x ∷ xs) zero none = absurd (cc)
drop_none (x ∷ xs) (suc i) none = omega (arith, drop_none xs i none)

-- and nothing is left behind the end
pub none_behind : {A : Type 0} (xs : List A) (i : ℕ) → length xs ≤ i → drop i xs ≡ []
none_behind {A} [] i past = drop-nil {A = A} i
none_behind (x ∷ xs) zero past = absurd (omega (arith, past))
none_behind (x ∷ xs) (suc i) past = none_behind xs i (omega (arith, past))
