-- The values of the formulas of shifts, and what shifts leave of the flags, by the masked count.
use Rattle.std.proofs.Common.{◌≡◌, ℕ, zero, suc, ◌+◌, ◌-◌, ◌*◌, ◌/◌, ◌%◌, ◌^◌, ◌<◌, ◌≤◌, Bool, true, false, arith, refl, ap, sym, ◌∙◌}
use Rattle.std.specs.Prelude.{bit_and, bit_xor, nat_lt, pos, ◌==◌, ◌&&◌, ◌||◌, if◌then◌else◌}
use Rattle.std.specs.Int.{int_div_euclid}
use Rattle.std.proofs.lemmas.Bool.Decides.{nat_tests}
use Rattle.std.proofs.lemmas.Nat.{pow_pos, mod_below, and_mask, xor_shr, xor_comm}
use Rattle.std.proofs.Math.Nat.{div-le_self, mod-eq_of_lt}
use Rattle.word_arith.specs.Bits.{bit, top_bit}
use Rattle.word_arith.specs.Signed.{signed, low_bits}
use Rattle.word_arith.specs.Width.{IsWidth}
use Rattle.word_arith.proofs.CallerLemmas.{bit-differ, top_bit_is, low_bits_below}
use Rattle.alu_width.specs.declared.flags.Flags.{Flags}
use Rattle.alu_width.specs.declared.operations.Shift.{Shift}
use Rattle.alu_width.specs.declared.operations.Shift.TheVariants.{Shl, Shr, Sar}
use Rattle.alu_width.specs.Effects.{is_sar, settled, shift_effects, effects, Defined, Undefined}
use Rattle.alu_width.specs.Masked.{masked}
use Rattle.alu_width.specs.Shifts.{shifted, last_out, shift_outcome}
use Rattle.alu_width.specs.Shifts.{shift_overflow as overflow_by_one}
use Rattle.alu_width.proofs.CallerLemmas.{shl_by_words, sar_by_words, shifted-zero, last_out_shl, last_out_shr, last_out_sar}
use Rattle.x64_syntax.specs.Operands.{bits}
use Rattle.x64_syntax.specs.declared.operand.Width.{Width}
use Rattle.x64_syntax.specs.declared.operand.Width.TheVariants as width
use Rattle.limm_ir.specs.Steps.{IrState}
use Rattle.limm_ir.specs.declared.step.IrOp.TheVariants as ops
use Rattle.lift_alu.specs.declared.shifts.Count.{Count}
use Rattle.lift_alu.specs.declared.shifts.Count.TheVariants.{Fixed, InTemp}
use Rattle.lift_alu.specs.Formulas.{Formula, Number, Operation, value}
use Rattle.lift_alu.specs.Operands.{with_sign}
use Rattle.lift_alu.specs.Flags.{top}
use Rattle.lift_alu.specs.Shifts.{amount, one_less, rest_of_width, kept_below_width, below_width, at_one, unless_zero, lowest_bit}
use Rattle.lift_alu.specs.Shifts.{shift_formula, shift_carry, shift_overflow}
use Rattle.lift_alu.proofs.OperandValues.{value_clean, value_with_sign}
use Rattle.lift_alu.proofs.Words.{is_width, positive}
use Rattle.lift_alu.proofs.FlagValues.{value_top}

-- ---- counts

-- a count is n in a state; a number is not 0
abbrev pub Counts : IrState → Count → (n : ℕ) → Type 0
Counts j (Fixed m) n = (m ≡ n) × (0 < n)
Counts j (InTemp t) n = j.temps t.0 ≡ n

-- a count at a width is below this
abbrev pub counts_below : Width → ℕ
counts_below width.Quad = 64
counts_below w = 32

-- that is what masks leave of a count
pub masked_below : (w : Width) (count : ℕ) → masked (bits w) count < counts_below w
masked_below width.Byte count = omega arith
masked_below width.Word count = omega arith
masked_below width.Long count = omega arith
masked_below width.Quad count = omega arith

pub below_64 : (w : Width) (n : ℕ) → n < counts_below w → n < 64
below_64 width.Byte n lt = omega (arith, lt)
below_64 width.Word n lt = omega (arith, lt)
below_64 width.Long n lt = omega (arith, lt)
below_64 width.Quad n lt = lt

-- a width has at most 64 bits
pub bits_most : (w : Width) → bits w ≤ 64
bits_most width.Byte = omega arith
bits_most width.Word = omega arith
bits_most width.Long = omega arith
bits_most width.Quad = omega arith

-- a lesser number taken from a width, in 64 bits
pub taken_from_width : (w : Width) (n : ℕ) → n ≤ bits w → (bits w + (2 ^ 64 - n)) % 2 ^ 64 ≡ bits w - n
taken_from_width width.Byte n le = omega (arith, le)
taken_from_width width.Word n le = omega (arith, le)
taken_from_width width.Long n le = omega (arith, le)
taken_from_width width.Quad n le = omega (arith, le)

-- one taken from a number below 64
one_taken : (n : ℕ) → 0 < n → n < 64 → (n + (2 ^ 64 - 1)) % 2 ^ 64 ≡ n - 1
one_taken n some lt = omega (arith, some, lt)

-- a flag, and a test
and_test : (test b : Bool) (x : ℕ) → (test ≡ true → x ≡ bit b) → bit_and x (bit test) ≡ bit (test && b)
and_test true true x is = ap (λ m. bit_and m 1) (is refl)
and_test true false x is = ap (λ m. bit_and m 1) (is refl)
and_test false b x is = and_mask x 0 ∙ omega arith

-- what is less by its test, and what is equal
less_by_test : (m n : ℕ) → nat_lt m n ≡ true → m < n
less_by_test m n is = grind (arith, nat_tests)

test_of_less : (m n : ℕ) → m < n → nat_lt m n ≡ true
test_of_less m n lt = grind (arith, nat_tests)

pub equal_by_test : (m n : ℕ) → (m == n) ≡ true → m ≡ n
equal_by_test m n is = grind (arith, nat_tests)

pub some_by_test : (n : ℕ) → (n == 0) ≡ false → 0 < n
some_by_test n is = grind (arith, nat_tests)

pub test_of_some : (n : ℕ) → 0 < n → (n == 0) ≡ false
test_of_some n some = grind (arith, nat_tests)

pub not_one : (n : ℕ) → 1 < n → (n == 1) ≡ false
not_one n more = grind (arith, nat_tests)

module _ (j : IrState) where
  -- the count
  pub amount_is : (c : Count) (n : ℕ) → Counts j c n → value j (amount c) ≡ n
  amount_is (Fixed m) n is = is.0
  amount_is (InTemp t) n is = is

  -- one less
  one_less_is : (c : Count) (n : ℕ) → Counts j c n → 0 < n → n < 64 → value j (one_less c) ≡ n - 1
  one_less_is (Fixed m) n is some lt = ap (λ k. k - 1) is.0
  one_less_is (InTemp t) n is some lt = ap (λ k. (k + (2 ^ 64 - 1)) % 2 ^ 64) is ∙ one_taken n some lt

  -- the bits of a width without the count
  rest_is : (w : Width) (c : Count) (n : ℕ) → Counts j c n → n ≤ bits w → value j (rest_of_width w c) ≡ bits w - n
  rest_is w (Fixed m) n is le = ap (λ k. bits w - k) is.0
  rest_is w (InTemp t) n is le = ap (λ k. (bits w + (2 ^ 64 - k)) % 2 ^ 64) is ∙ taken_from_width w n le

  -- a flag or 0, by a test
  value_or_zero : (test b : Bool) (e : Formula) → (test ≡ true → value j e ≡ bit b)
      → value j (if test then e else Number 0) ≡ bit (test && b)
  value_or_zero true b e is = is refl
  value_or_zero false b e is = refl

  -- a flag where a kept count is below the width
  kept_below_is : (w : Width) (t n : ℕ) (e : Formula) (b : Bool) → j.temps t ≡ n → n < counts_below w → (n < bits w → value j e ≡ bit b)
      → value j (kept_below_width w (record { 0 = t }) e) ≡ bit (nat_lt n (bits w) && b)
  kept_below_is width.Byte t n e b is lt flag =
      ap (λ k. bit_and (value j e) (bit (nat_lt k 8))) is ∙ and_test (nat_lt n 8) b (value j e) (λ test. flag (less_by_test n 8 test))
  kept_below_is width.Word t n e b is lt flag =
      ap (λ k. bit_and (value j e) (bit (nat_lt k 16))) is ∙ and_test (nat_lt n 16) b (value j e) (λ test. flag (less_by_test n 16 test))
  kept_below_is width.Long t n e b is lt flag = flag lt ∙ ap (λ test. bit (test && b)) (sym (test_of_less n 32 lt))
  kept_below_is width.Quad t n e b is lt flag = flag lt ∙ ap (λ test. bit (test && b)) (sym (test_of_less n 64 lt))

  below_width_is : (w : Width) (c : Count) (n : ℕ) (e : Formula) (b : Bool) → Counts j c n → n < counts_below w
      → (n < bits w → value j e ≡ bit b)
      → value j (below_width w c e) ≡ bit (nat_lt n (bits w) && b)
  below_width_is w (Fixed m) n e b is lt flag =
      ap (λ k. value j (if nat_lt k (bits w) then e else Number 0)) is.0
      ∙ value_or_zero (nat_lt n (bits w)) b e (λ test. flag (less_by_test n (bits w) test))
  below_width_is w (InTemp t) n e b is lt flag = kept_below_is w t.0 n e b is lt flag

  -- a flag where the count is 1
  pub at_one_is : (c : Count) (n : ℕ) (e : Formula) (b : Bool) → Counts j c n → (n ≡ 1 → value j e ≡ bit b)
      → value j (at_one c e) ≡ bit ((n == 1) && b)
  at_one_is (Fixed m) n e b is flag =
      ap (λ k. value j (if k == 1 then e else Number 0)) is.0 ∙ value_or_zero (n == 1) b e (λ test. flag (equal_by_test n 1 test))
  at_one_is (InTemp t) n e b is flag =
      ap (λ k. bit_and (value j e) (bit (k == 1))) is ∙ and_test (n == 1) b (value j e) (λ test. flag (equal_by_test n 1 test))

  -- one of two numbers, by a test
  either_is : (test old new : Bool) (x y : ℕ) → x ≡ bit old → (test ≡ false → y ≡ bit new)
      → (if test then x else y) ≡ bit (if test then old else new)
  either_is true old new x y was is = was
  either_is false old new x y was is = is refl

  -- a flag that stays where the count is 0
  pub unless_zero_is : (c : Count) (n f : ℕ) (e : Formula) (old new : Bool) → Counts j c n → j.flags f ≡ bit old
      → (0 < n → value j e ≡ bit new)
      → value j (unless_zero c f e) ≡ bit (if n == 0 then old else new)
  unless_zero_is (Fixed m) n f e old new is was flag = flag is.1 ∙ ap (λ test. bit (if test then old else new)) (sym (test_of_some n is.1))
  unless_zero_is (InTemp t) n f e old new is was flag =
      ap (λ k. if k == 0 then j.flags f else value j e) is
      ∙ either_is (n == 0) old new (j.flags f) (value j e) was (λ test. flag (some_by_test n test))

  -- ---- shifts

  module _ (w : Width) (c : Count) (n : ℕ) (a : Formula) (counts : Counts j c n) (lt : n < counts_below w)
      (fit : value j a < 2 ^ bits w) where
    -- the count, as shifts take it
    amount_modulo : value j (amount c) % 64 ≡ n
    amount_modulo = ap (λ k. k % 64) (amount_is c n counts) ∙ mod-eq_of_lt (below_64 w n lt)

    -- a value is shifted
    pub shift_is : (o : Shift) → value j (shift_formula o w c a) ≡ shifted o (bits w) (value j a) n
    shift_is Shl =
        value_clean j w (Operation ops.Shl a (amount c)) (mod_below (value j a * 2 ^ (value j (amount c) % 64)) (2 ^ 64) (pow_pos 64))
        ∙ ap (λ k. value j a * 2 ^ k % 2 ^ 64 % 2 ^ bits w) amount_modulo ∙ shl_by_words (bits w) (value j a) n (is_width w)
    shift_is Shr = ap (λ k. value j a / 2 ^ k) amount_modulo
    shift_is Sar =
        value_clean j w (Operation ops.Sar (with_sign w a) (amount c))
        (low_bits_below 64 (int_div_euclid (signed 64 (value j (with_sign w a))) (pos (2 ^ (value j (amount c) % 64)))))
        ∙ ap (λ k. low_bits 64 (int_div_euclid (signed 64 (value j (with_sign w a))) (pos (2 ^ k))) % 2 ^ bits w) amount_modulo
        ∙ ap (λ x. low_bits 64 (int_div_euclid (signed 64 x) (pos (2 ^ n))) % 2 ^ bits w) (value_with_sign j w a fit)
        ∙ sar_by_words (bits w) (value j a) n (is_width w) fit

    module _ (some : 0 < n) where
      -- one less than the count, as shifts take it
      one_less_modulo : value j (one_less c) % 64 ≡ n - 1
      one_less_modulo = ap (λ k. k % 64) (one_less_is c n counts some (below_64 w n lt)) ∙ mod-eq_of_lt (omega (arith, below_64 w n lt))

      -- the bits that are left, as shifts take them
      rest_modulo : n < bits w → value j (rest_of_width w c) % 64 ≡ bits w - n
      rest_modulo less = ap (λ k. k % 64) (rest_is w c n counts (omega (arith, less))) ∙ mod-eq_of_lt (omega (arith, some, bits_most w))

      -- the last bit out
      pub carry_is : (o : Shift)
          → value j (shift_carry o w c a) ≡ bit ((is_sar o || nat_lt n (bits w)) && last_out o (bits w) (value j a) n)
      carry_is Shl =
          below_width_is w c n (lowest_bit (Operation ops.Shr a (rest_of_width w c))) (last_out Shl (bits w) (value j a) n) counts lt
          (λ less. and_mask (value j a / 2 ^ (value j (rest_of_width w c) % 64)) 1 ∙ ap (λ k. value j a / 2 ^ k % 2) (rest_modulo less)
          ∙ sym (last_out_shl (bits w) (value j a) n some (omega (arith, less)) fit))
      carry_is Shr =
          below_width_is w c n (lowest_bit (Operation ops.Shr a (one_less c))) (last_out Shr (bits w) (value j a) n) counts lt
          (λ less. and_mask (value j a / 2 ^ (value j (one_less c) % 64)) 1 ∙ ap (λ k. value j a / 2 ^ k % 2) one_less_modulo
          ∙ sym (last_out_shr (bits w) (value j a) n))
      carry_is Sar =
          and_mask (value j (Operation ops.Sar (with_sign w a) (one_less c))) 1
          ∙ ap (λ k. low_bits 64 (int_div_euclid (signed 64 (value j (with_sign w a))) (pos (2 ^ k))) % 2) one_less_modulo
          ∙ ap (λ x. low_bits 64 (int_div_euclid (signed 64 x) (pos (2 ^ (n - 1)))) % 2) (value_with_sign j w a fit)
          ∙ sym (last_out_sar (bits w) (value j a) n (is_width w) fit)

    -- OF of a value that becomes r
    pub overflow_is : (o : Shift) (r : Formula) → value j r ≡ shifted o (bits w) (value j a) n
        → value j (shift_overflow o w c a r) ≡ bit ((n == 1) && overflow_by_one o (bits w) (value j a))
    overflow_is Shl r is =
        at_one_is c n (top w (Operation ops.Xor a r)) (overflow_by_one Shl (bits w) (value j a)) counts (λ one.
        let W : ℕ = bits w in
        let v : ℕ = value j a in
        let first : v / 2 ^ (W - 1) ≡ bit (last_out Shl W v 1) =
        top_bit_is W v (positive W (is_width w)) fit ∙ ap (λ k. bit (top_bit W k)) (sym (shifted-zero Shl W v fit)) in
        let second : value j r / 2 ^ (W - 1) ≡ bit (top_bit W (shifted Shl W v 1)) =
        ap (λ k. k / 2 ^ (W - 1)) (is ∙ ap (λ m. shifted Shl W v m) one)
        ∙ top_bit_is W (shifted Shl W v 1) (positive W (is_width w)) (mod_below (v * 2 ^ 1) (2 ^ W) (pow_pos W)) in
        value_top w j (Operation ops.Xor a r) ∙ xor_shr v (value j r) (W - 1)
        ∙ ap (λ k. bit_xor k (value j r / 2 ^ (W - 1))) first ∙ ap (λ k. bit_xor (bit (last_out Shl W v 1)) k) second
        ∙ xor_comm (bit (last_out Shl W v 1)) (bit (top_bit W (shifted Shl W v 1)))
        ∙ sym (bit-differ (top_bit W (shifted Shl W v 1)) (last_out Shl W v 1)))
    overflow_is Shr r is =
        at_one_is c n (top w a) (overflow_by_one Shr (bits w) (value j a)) counts
        (λ one. value_top w j a ∙ top_bit_is (bits w) (value j a) (positive (bits w) (is_width w)) fit)
    overflow_is Sar r is = never (n == 1)
      where
        never : (test : Bool) → 0 ≡ bit (test && false)
        never true = refl
        never false = refl

-- a shifted value fits its width
pub shifted_below : (o : Shift) (W v n : ℕ) → v < 2 ^ W → shifted o W v n < 2 ^ W
shifted_below Shl W v n fit = mod_below (v * 2 ^ n) (2 ^ W) (pow_pos W)
shifted_below Shr W v n fit = omega (arith, fit, div-le_self v (2 ^ n))
shifted_below Sar W v n fit = low_bits_below W (int_div_euclid (signed W v) (pos (2 ^ n)))

-- ---- what shifts leave of the flags

-- the flags after a shift of v by the masked count n
abbrev pub shift_leaves : Shift → (W v n : ℕ) → Flags → Flags
shift_leaves o W v n old = record {
  cf = if n == 0 then old.cf else (is_sar o || nat_lt n W) && last_out o W v n;
  zf = if n == 0 then old.zf else (shifted o W v n == 0);
  sf = if n == 0 then old.sf else top_bit W (shifted o W v n);
  of = if n == 0 then old.of else (n == 1) && overflow_by_one o W v;
}

-- a shift by 1 stays below the width
one_stays : (o : Shift) (W : ℕ) → IsWidth W → (is_sar o || nat_lt 1 W) ≡ true
one_stays Shl W w = grind (arith, nat_tests)
one_stays Shr W w = grind (arith, nat_tests)
one_stays Sar W w = refl

-- the table of effects says so
settled_so : (o : Shift) (W v n : ℕ) (old : Flags) → IsWidth W
    → settled (shift_effects o W n)
    (record { cf = last_out o W v n; zf = shifted o W v n == 0; sf = top_bit W (shifted o W v n); of = overflow_by_one o W v }) old
    ≡ shift_leaves o W v n old
settled_so o W v zero old w = refl
settled_so o W v (suc zero) old w = rw (one_stays o W w)
settled_so o W v (suc (suc n)) old w =
    rw (test_of_some (suc (suc n)) (omega arith), not_one (suc (suc n)) (omega arith)) (by (is_sar o || nat_lt (suc (suc n)) W))
  where
    by : (test : Bool)
        → settled (if test then effects Defined Defined Defined Undefined else effects Undefined Defined Defined Undefined)
        (record {
          cf = last_out o W v (suc (suc n));
          zf = shifted o W v (suc (suc n)) == 0;
          sf = top_bit W (shifted o W v (suc (suc n)));
          of = overflow_by_one o W v;
        }) old
        ≡ record {
          cf = test && last_out o W v (suc (suc n));
          zf = shifted o W v (suc (suc n)) == 0;
          sf = top_bit W (shifted o W v (suc (suc n)));
          of = false;
        }
    by true = refl
    by false = refl

pub shift_flags_are : (o : Shift) (W v count : ℕ) (old : Flags) → IsWidth W
    → (shift_outcome o W v count old).flags ≡ shift_leaves o W v (masked W count) old
unfolding shift_outcome
shift_flags_are o W v count old w = settled_so o W v (masked W count) old w

pub shift_value_is : (o : Shift) (W v count : ℕ) (old : Flags) → (shift_outcome o W v count old).value ≡ shifted o W v (masked W count)
unfolding shift_outcome
shift_value_is o W v count old = refl
