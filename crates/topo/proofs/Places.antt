-- What stands at a place of a list after a write.
use Rattle.std.proofs.Common.{◌≡◌, ◌≢◌, ◌<◌, ℕ, zero, suc, List, [], ◌∷◌, length, ◌⊎◌, inl, inr, Some, refl, ap, arith}
use Rattle.std.proofs.Math.ListN.{set}
use Rattle.std.specs.List.{slice_get}

pub get-set_same : {A : Type 0} (xs : List A) (i : ℕ) (y : A) → i < length xs → slice_get (set xs i y) i ≡ Some y
get-set_same [] i y lt = absurd (omega arith)
get-set_same (x ∷ xs) zero y lt = refl
get-set_same (x ∷ xs) (suc i) y lt = get-set_same xs i y (omega arith)

pub get-set_other : {A : Type 0} (xs : List A) (i j : ℕ) (y : A) → j ≢ i → slice_get (set xs i y) j ≡ slice_get xs j
get-set_other [] i j y ne = refl
get-set_other (x ∷ xs) zero zero y ne = absurd (ne refl)
get-set_other (x ∷ xs) zero (suc j) y ne = refl
get-set_other (x ∷ xs) (suc i) zero y ne = refl
get-set_other (x ∷ xs) (suc i) (suc j) y ne = get-set_other xs i j y (λ e. ne (ap (λ k. suc k) e))

set_written : {A : Type 0} (xs : List A) (i : ℕ) (y x : A) → slice_get (set xs i y) i ≡ Some x → y ≡ x
set_written [] i y x here = absurd (cc)
set_written (z ∷ xs) zero y x here = cc
set_written (z ∷ xs) (suc i) y x here = set_written xs i y x here

-- after a write, what stands at a place is what was written or what stood there before
pub set_cases : {A : Type 0} (xs : List A) (i j : ℕ) (y x : A) → slice_get (set xs i y) j ≡ Some x → ((j ≡ i) × (y ≡ x)) ⊎ ((j ≢ i) × (slice_get xs j ≡ Some x))
set_cases {A} xs i j y x here =
    let cases : (j ≡ i) ⊎ (j ≢ i) = grind arith in
    elim cases [
      | inl same ↦ inl (same, set_written xs i y x (let moved : slice_get (set xs i y) j ≡ slice_get (set xs i y) i = ap (slice_get (set xs i y)) same in cc))
      | inr other ↦ inr (other, (let e = get-set_other xs i j y other in cc))
    ]
