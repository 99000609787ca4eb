-- The test of a permission.
use Rattle.std.proofs.Common.{◌≡◌, ℕ, zero, suc, ◌+◌, ◌&&◌, Bool, true, false, Option, sym, ◌∙◌, ap, refl, subst, arith}
use Rattle.std.specs.Prelude.{IsTrue, ◌↔◌}
use Rattle.ev_graph.specs.Memory.{Cell, permits, Allows, allows}

both : (a b : Bool) → (a && b) ≡ true → (a ≡ true) × (b ≡ true)
both true b here = (refl, here)
both false b here = cc

allowed : (cells : ℕ → Option Cell) (write : Bool) (address size : ℕ) → allows cells write address size ≡ true → Allows cells write address size
unfolding allows
allowed cells write address zero all k below = absurd (omega (arith, below))
allowed cells write address (suc size) all zero below =
    subst (λ n. permits write (cells n) ≡ true) (omega arith) (both (permits write (cells address)) (allows cells write (address + 1) size) all).0
allowed cells write address (suc size) all (suc k) below =
    let later = (both (permits write (cells address)) (allows cells write (address + 1) size) all).1 in
    subst (λ n. permits write (cells n) ≡ true) (omega arith) (allowed cells write (address + 1) size later k (omega arith))

tested : (cells : ℕ → Option Cell) (write : Bool) (address size : ℕ) → Allows cells write address size → allows cells write address size ≡ true
unfolding allows
tested cells write address zero all = refl
tested cells write address (suc size) all =
    ap (λ b. b && allows cells write (address + 1) size) (subst (λ n. permits write (cells n) ≡ true) (omega arith) (all 0 (omega arith)))
    ∙ tested cells write (address + 1) size (λ k below. subst (λ n. permits write (cells n) ≡ true) (omega arith) (all (suc k) (omega arith)))

-- what a memory answers is the test
pub answered_by_test : (cells : ℕ → Option Cell) (write : Bool) (address size : ℕ) (b : Bool) → (IsTrue b ↔ Allows cells write address size) → b ≡ allows cells write address size
answered_by_test cells write address size true exact = sym (tested cells write address size (exact.0 refl))
answered_by_test cells write address size false exact = by (allows cells write address size) (allowed cells write address size)
  where
    by : (a : Bool) → (a ≡ true → Allows cells write address size) → false ≡ a
    by true here = exact.1 (here refl)
    by false here = refl
