-- Registers after a write.
use Rattle.std.proofs.Common.{◌≡◌, ◌≢◌, ℕ, ◌<◌, ◌==◌, Bool, true, false, arith}
use Rattle.std.specs.Prelude.{if◌then◌else◌}
use Rattle.std.proofs.lemmas.Bool.Decides.{nat_tests}
use Rattle.behavior.specs.Acts.{Bank, put}

-- the same value into banks that agree at a register
pub put_same : (k v w : ℕ) (a b : Bank) (n : ℕ) → v ≡ w → a n ≡ b n → put k v a n ≡ put k w b n
put_same k v w a b n value here = by (n == k)
  where
    by : (p : Bool) → (if p then v else a n) ≡ (if p then w else b n)
    by true = value
    by false = here

-- a property of all values is one of a bank after a write
pub put_fit : (k v most : ℕ) (a : Bank) (n : ℕ) → v < most → a n < most → put k v a n < most
put_fit k v most a n value here = by (n == k)
  where
    by : (p : Bool) → (if p then v else a n) < most
    by true = value
    by false = here

-- what was written is there
pub put_here : (k v : ℕ) (a : Bank) → put k v a k ≡ v
put_here k v a = grind (arith, nat_tests)

-- and all else as before
pub put_other : (k v : ℕ) (a : Bank) (n : ℕ) → n ≢ k → put k v a n ≡ a n
put_other k v a n apart = grind (arith, nat_tests)
