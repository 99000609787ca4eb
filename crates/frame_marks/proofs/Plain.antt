-- Options and tests.
use Rattle.std.proofs.Common.{◌≡◌, ℕ, zero, suc, Bool, true, false, not, ◌&&◌, [], ◌∷◌, Some, None, refl}
use Rattle.std.specs.List.{slice_get}

pub some_same : {A : Type 0} {x y : A} → Some x ≡ Some y → x ≡ y
some_same e = cc

pub no_some : {A : Type 0} {x : A} → None ≡ Some x → ⊥
no_some e = absurd cc

-- what stands in a list of one
pub only : {A : Type 0} (x y : A) (i : ℕ) → slice_get (x ∷ []) i ≡ Some y → x ≡ y
only x y zero here = cc
only x y (suc i) here = absurd (cc)

pub is_not : (b : Bool) → not b ≡ true → b ≡ false
is_not true e = absurd cc
is_not false e = refl

pub not_is : (b : Bool) → b ≡ false → not b ≡ true
not_is true e = absurd cc
not_is false e = refl

pub not_false : (b : Bool) → not b ≡ false → b ≡ true
not_false true e = refl
not_false false e = absurd cc

pub both_true : (a b : Bool) → a ≡ true → b ≡ true → (a && b) ≡ true
both_true true b one other = other
both_true false b one other = absurd cc

pub of_both : (a b : Bool) → (a && b) ≡ true → (a ≡ true) × (b ≡ true)
of_both true b e = (refl, e)
of_both false b e = absurd cc
