-- What stands at a place of a list, of its parts, and of a longer one.
use Rattle.std.proofs.Common.{◌≡◌, ◌≤◌, ◌<◌, ◌+◌, ◌-◌, ℕ, zero, suc, List, [], ◌∷◌, ◌++◌, length, ◌⊎◌, inl, inr, Some, None, take, drop, refl, ap, arith}
use Rattle.std.specs.List.{slice_get, slice_range}

pub get-drop : {A : Type 0} (xs : List A) (i k : ℕ) → slice_get (drop i xs) k ≡ slice_get xs (i + k)
get-drop [] zero k = refl
get-drop [] (suc i) k = refl
get-drop (x ∷ xs) zero k = let e : 0 + k ≡ k = omega arith in rw e refl
get-drop (x ∷ xs) (suc i) k = let e : suc i + k ≡ suc (i + k) = omega arith in rw e (get-drop xs i k)

pub get-take : {A : Type 0} (xs : List A) (n k : ℕ) → k < n → slice_get (take n xs) k ≡ slice_get xs k
get-take xs zero k lt = absurd (omega arith)
get-take [] (suc n) k lt = refl
get-take (x ∷ xs) (suc n) zero lt = refl
get-take (x ∷ xs) (suc n) (suc k) lt = get-take xs n k (omega arith)

pub get-take_past : {A : Type 0} (xs : List A) (n k : ℕ) → n ≤ k → slice_get (take n xs) k ≡ None
get-take_past xs zero k le = refl
get-take_past [] (suc n) k le = refl
get-take_past (x ∷ xs) (suc n) zero le = absurd (omega arith)
get-take_past (x ∷ xs) (suc n) (suc k) le = get-take_past xs n k (omega arith)

-- what stands in a part of the list stands in the list
pub range_from : {A : Type 0} (xs : List A) (i j k : ℕ) (x : A) → slice_get (slice_range xs i j) k ≡ Some x → (i + k < j) × (slice_get xs (i + k) ≡ Some x)
range_from {A} xs i j k x here =
    let cases : (k < j - i) ⊎ (j - i ≤ k) = grind arith in
    elim cases [
      | inl in_part ↦ (omega arith, (let found = get-take (drop i xs) (j - i) k in_part in let moved = get-drop xs i k in cc))
      | inr past ↦ absurd (let none = get-take_past (drop i xs) (j - i) k past in cc)
    ]

-- what stands in the list, within the part, stands in the part
pub range_to : {A : Type 0} (xs : List A) (i j k : ℕ) (x : A) → i ≤ k → k < j → slice_get xs k ≡ Some x → slice_get (slice_range xs i j) (k - i) ≡ Some x
range_to {A} xs i j k x after before here =
    let found = get-take (drop i xs) (j - i) (k - i) (omega arith) in
    let moved = get-drop xs i (k - i) in
    let e : i + (k - i) ≡ k = omega arith in
    let moved_to : slice_get xs (i + (k - i)) ≡ slice_get xs k = ap (slice_get xs) e in
    cc

pub get-append : {A : Type 0} (xs ys : List A) (i : ℕ) (x : A) → slice_get xs i ≡ Some x → slice_get (xs ++ ys) i ≡ Some x
get-append [] ys i x here = absurd (cc)
get-append (z ∷ xs) ys zero x here = here
get-append (z ∷ xs) ys (suc i) x here = get-append xs ys i x here

pub get-push : {A : Type 0} (xs : List A) (y : A) → slice_get (xs ++ y ∷ []) (length xs) ≡ Some y
get-push [] y = refl
get-push (x ∷ xs) y = get-push xs y

-- after a push, what stands at a place stood there before or is the last
pub push_cases : {A : Type 0} (xs : List A) (y : A) (i : ℕ) (x : A) → slice_get (xs ++ y ∷ []) i ≡ Some x → (slice_get xs i ≡ Some x) ⊎ ((i ≡ length xs) × (y ≡ x))
push_cases [] y zero x here = inr (refl, (cc))
push_cases [] y (suc i) x here = absurd (cc)
push_cases (z ∷ xs) y zero x here = inl here
push_cases (z ∷ xs) y (suc i) x here = elim (push_cases xs y i x here) [
  | inl before ↦ inl before
  | inr last ↦ inr (ap (λ k. suc k) last.0, last.1)
]
