-- The test of permissions.
use Rattle.std.proofs.Common.{◌≡◌, ℕ, zero, suc, ◌+◌, Bool, true, false, refl, sym, ◌∙◌, subst, arith, IsTrue, ◌&&◌}
use Rattle.std.specs.Prelude.{◌↔◌, Option}
use Rattle.ev_graph.specs.Memory.{Cell, permits, Allows, allows}

both_left : (a b : Bool) → (a && b) ≡ true → a ≡ true
both_left true b h = refl
both_left false b h = h

both_right : (a b : Bool) → (a && b) ≡ true → b ≡ true
both_right true b h = h
both_right false b h = absurd (cc)

-- where each byte is permitted the test says so
allows_each : (cells : ℕ → Option Cell) (write : Bool) (address size : ℕ) → Allows cells write address size → allows cells write address size ≡ true
unfolding allows
allows_each cells write address zero each = refl
allows_each cells write address (suc size) each =
    let first : permits write (cells address) ≡ true = (let e : address + 0 ≡ address = omega arith in subst (λ n. permits write (cells n) ≡ true) e (each 0 (omega arith))) in
    rw first (allows_each cells write (address + 1) size (λ k lt. let e : address + suc k ≡ address + 1 + k = omega arith in subst (λ n. permits write (cells n) ≡ true) e (each (suc k) (omega (arith, lt)))))

-- where the test says so each byte is permitted
each_allowed : (cells : ℕ → Option Cell) (write : Bool) (address size : ℕ) → allows cells write address size ≡ true → Allows cells write address size
unfolding allows
each_allowed cells write address zero h k lt = absurd (omega (arith, lt))
each_allowed cells write address (suc size) h zero lt =
    let e : address ≡ address + 0 = omega arith in
    subst (λ n. permits write (cells n) ≡ true) e (both_left (permits write (cells address)) (allows cells write (address + 1) size) h)
each_allowed cells write address (suc size) h (suc k) lt =
    let e : address + 1 + k ≡ address + suc k = omega arith in
    subst (λ n. permits write (cells n) ≡ true) e (each_allowed cells write (address + 1) size (both_right (permits write (cells address)) (allows cells write (address + 1) size) h) k (omega (arith, lt)))

-- an answer that is true exactly where each byte is permitted is the test
pub allows_decides : (cells : ℕ → Option Cell) (write : Bool) (address size : ℕ) (b : Bool) → (IsTrue b ↔ Allows cells write address size) → b ≡ allows cells write address size
allows_decides cells write address size b h = by b (allows cells write address size) refl h
  where
    by : (b t : Bool) → allows cells write address size ≡ t → (IsTrue b ↔ Allows cells write address size) → b ≡ t
    by true true e h = refl
    by false false e h = refl
    by true false e h = sym (allows_each cells write address size (h.0 refl)) ∙ e
    by false true e h = h.1 (each_allowed cells write address size e)
