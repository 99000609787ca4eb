-- What the words of operations compute is what the operations give.
use Rattle.std.proofs.Common.{◌≡◌, ℕ, ◌+◌, ◌-◌, ◌*◌, ◌/◌, ◌%◌, ◌^◌, ◌<◌, ◌≤◌, ◌==◌, Bool, true, false, not, inl, inr, refl, ap, ◌∙◌, subst, arith}
use Rattle.std.specs.Prelude.{if◌then◌else◌, bit_and, bit_or, bit_xor, nat_lt, int_lt, ◌*ℤ◌, int_div}
use Rattle.std.specs.Int.Bits.{or_zero_l, and_lt}
use Rattle.std.proofs.lemmas.Bool.Decides.{nat_tests}
use Rattle.std.proofs.lemmas.Nat.{xor_lt, or_lt}
use Rattle.std.proofs.Math.Nat.{div-le_self, div-le_of_le-mul, mul-le-mul_left, mod-le}
use Rattle.word_arith.specs.Bits.{bit}
use Rattle.word_arith.specs.Signed.{signed, low_bits}
use Rattle.word_arith.specs.ArmWords.{lsrv, rorv, umulh, smulh, udiv, sdiv, subs_value}
use Rattle.word_arith.proofs.CallerLemmas.{low_bits_below, turn_left_below, less_by_overflow}
use Rattle.limm_ir.specs.Conditions.{IsSize}
use Rattle.a64_table.specs.Values.{low, shifted, holds, subs_flags}

-- a word keeps its low 64 bits
pub low_is : (v : ℕ) → v < 2 ^ 64 → low true v ≡ v
low_is v fit = omega (arith, fit)

-- a shift by no place
pub plain : (v : ℕ) → v < 2 ^ 64 → shifted true 0 0 v ≡ v
plain v fit = omega (arith, fit)

-- a copy through ORR with zero
pub copied : (v w : ℕ) → v ≡ w → w < 2 ^ 64 → low true (bit_or 0 (shifted true 0 0 v)) ≡ w
copied v w e fit = rw e (ap (λ u. low true (bit_or 0 u)) (plain w fit) ∙ ap (low true) (or_zero_l w) ∙ low_is w fit)

module _ (m n a b : ℕ) (at_a : m ≡ a) (at_b : n ≡ b) (p : a < 2 ^ 64) (q : b < 2 ^ 64) where
  -- ADD
  pub add_is : low true (m + shifted true 0 0 n) ≡ (a + b) % 2 ^ 64
  add_is = rw (at_a, at_b, plain b q) refl

  -- SUB
  pub sub_is : subs_value 64 (low true m) (shifted true 0 0 n) ≡ (a + (2 ^ 64 - b)) % 2 ^ 64
  sub_is = rw (at_a, at_b, plain b q, low_is a p) refl

  -- AND
  pub and_is : low true (bit_and m (shifted true 0 0 n)) ≡ bit_and a b
  and_is = rw (at_a, at_b, plain b q) (low_is (bit_and a b) (and_lt 64 a b p q))

  -- ORR
  pub or_is : low true (bit_or m (shifted true 0 0 n)) ≡ bit_or a b
  or_is = rw (at_a, at_b, plain b q) (low_is (bit_or a b) (or_lt 64 a b p q))

  -- EOR
  pub xor_is : low true (bit_xor m (shifted true 0 0 n)) ≡ bit_xor a b
  xor_is = rw (at_a, at_b, plain b q) (low_is (bit_xor a b) (xor_lt 64 a b p q))

  -- what takes the low bits of both
  pub both_is : (f : ℕ → ℕ → ℕ) → f (low true m) (low true n) ≡ f a b
  both_is f = rw (at_a, at_b, low_is a p, low_is b q) refl

-- ---- what operations give fits 64 bits

-- a shift to the right
pub shr_fits : (a b : ℕ) → a < 2 ^ 64 → lsrv 64 a b < 2 ^ 64
shr_fits a b p = omega (arith, div-le_self a (2 ^ (b % 64)))

-- a turn
pub ror_fits : (a b : ℕ) → a < 2 ^ 64 → rorv 64 a b < 2 ^ 64
ror_fits a b p = turn_left_below 64 a ((64 - b % 64) % 64) p (omega arith)

-- the upper half of a product without sign
pub high_fits : (a b : ℕ) → a < 2 ^ 64 → b < 2 ^ 64 → umulh a b < 2 ^ 64
high_fits a b p q =
    let wide : a * b ≤ a * 2 ^ 64 = mul-le-mul_left a (omega (arith, q)) in
    let few : a * b / 2 ^ 64 ≤ a = div-le_of_le-mul (2 ^ 64) (omega (arith, wide)) in
    omega (arith, few, p)

-- the upper half of a product with sign
pub high_signed_fits : (a b : ℕ) → smulh a b < 2 ^ 64
unfolding smulh
high_signed_fits a b = omega (arith, low_bits_below 128 (signed 64 a *ℤ signed 64 b))

-- a quotient without sign
pub udiv_fits : (a b : ℕ) → a < 2 ^ 64 → udiv 64 a b < 2 ^ 64
udiv_fits a b p = by (b == 0)
  where
    by : (c : Bool) → (if c then 0 else a / b) < 2 ^ 64
    by true = omega arith
    by false = omega (arith, p, div-le_self a b)

-- a quotient with sign
pub sdiv_fits : (a b : ℕ) → sdiv 64 a b < 2 ^ 64
unfolding sdiv
sdiv_fits a b = by (b == 0)
  where
    by : (c : Bool) → (if c then 0 else low_bits 64 (int_div (signed 64 a) (signed 64 b))) < 2 ^ 64
    by true = omega arith
    by false = low_bits_below 64 (int_div (signed 64 a) (signed 64 b))

-- a flag
pub bit_fits : (c : Bool) → bit c < 2 ^ 64
bit_fits true = omega arith
bit_fits false = omega arith

-- a remainder, as an extension by zeros is one
pub zero_ext_fits : (a b : ℕ) → a < 2 ^ 64 → a % b < 2 ^ 64
zero_ext_fits a b p = omega (arith, mod-le a b, p)

-- an access's value fits 64 bits
pub size_fits : (size v : ℕ) → IsSize size → v < 256 ^ size → v < 2 ^ 64
size_fits size v (inl e) lt = omega (arith, subst (λ n. v < 256 ^ n) e lt)
size_fits size v (inr (inl e)) lt = omega (arith, subst (λ n. v < 256 ^ n) e lt)
size_fits size v (inr (inr (inl e))) lt = omega (arith, subst (λ n. v < 256 ^ n) e lt)
size_fits size v (inr (inr (inr e))) lt = omega (arith, subst (λ n. v < 256 ^ n) e lt)

-- ---- conditions after a comparison

-- the code NE, after the flags of a difference
pub not_equal : (a b : ℕ) → a < 2 ^ 64 → b < 2 ^ 64 → holds 1 (subs_flags 64 a b) ≡ not (a == b)
unfolding holds subs_flags
not_equal a b p q = grind (arith, nat_tests)

-- the code CS
pub at_least : (a b : ℕ) → holds 2 (subs_flags 64 a b) ≡ not (nat_lt a b)
unfolding holds subs_flags
at_least a b = grind (arith, nat_tests)

-- the code GE
pub signed_at_least : (a b : ℕ) → a < 2 ^ 64 → b < 2 ^ 64 → holds 10 (subs_flags 64 a b) ≡ not (int_lt (signed 64 a) (signed 64 b))
unfolding holds subs_flags
signed_at_least a b p q = ap not (less_by_overflow 64 a b (inr (inr (inr refl))) p q)

-- CSINC of zeros: 1 where the condition does not hold
pub compared : (c d : Bool) → c ≡ not d → (if c then low true 0 else low true (0 + 1)) ≡ bit d
compared c true e = rw e refl
compared c false e = rw e refl
