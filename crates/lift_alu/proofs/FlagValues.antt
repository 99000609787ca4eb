-- The values of the formulas of results, flags and conditions.
use Rattle.std.proofs.Common.{◌≡◌, ℕ, ◌+◌, ◌-◌, ◌/◌, ◌%◌, ◌^◌, ◌<◌, Bool, true, false, arith, refl, ap, sym, ◌∙◌, lit<}
use Rattle.std.specs.Prelude.{bit_and, bit_or, bit_xor, nat_lt, nat_le, ◌==◌, not, ◌&&◌, ◌||◌, if◌then◌else◌}
use Rattle.std.specs.Int.Bits.{and_lt, xor_zero_l}
use Rattle.std.proofs.lemmas.Bool.Decides.{nat_tests}
use Rattle.std.proofs.lemmas.Nat.{pow_pos, mod_below, or_lt, xor_lt}
use Rattle.word_arith.specs.Bits.{bit, differ, top_bit}
use Rattle.word_arith.specs.Masks.{ones}
use Rattle.alu_width.specs.declared.flags.Flags.{Flags}
use Rattle.alu_width.specs.Conditions.{condition, even_condition}
use Rattle.alu_width.specs.Sums.{outcome, sum_outcome, difference_outcome}
use Rattle.word_arith.proofs.CallerLemmas.{bit_below, bit-not, bit-or, bit-differ, not_by_xor, carry_below, sum_cut, difference_cut_borrow, top_bit_is, top_and_xor}
use Rattle.word_arith.proofs.OverflowLemmas.{sum_overflow as sum_overflows, difference_overflow as difference_overflows}
use Rattle.alu_width.proofs.CallerLemmas.{add_by_words, sub_by_words}
use Rattle.x64_syntax.specs.Formed.{IsCondition}
use Rattle.x64_syntax.specs.Operands.{bits}
use Rattle.x64_syntax.specs.declared.instr.AluOp.{AluOp}
use Rattle.x64_syntax.specs.declared.instr.AluOp.TheVariants as op
use Rattle.x64_syntax.specs.declared.operand.Cond.{Cond}
use Rattle.x64_syntax.specs.declared.operand.Width.{Width}
use Rattle.x64_syntax.specs.declared.operand.Width.TheVariants as width
use Rattle.x64_table.specs.Outcomes.{alu_outcome, inc_outcome, dec_outcome, neg_outcome, not_value}
use Rattle.limm_ir.specs.Steps.{IrState}
use Rattle.limm_ir.specs.declared.step.IrOp.TheVariants as ops
use Rattle.lift_alu.specs.Formulas.{Formula, Number, Flag, Operation, value}
use Rattle.lift_alu.specs.Operands.{clean}
use Rattle.lift_alu.specs.Flags.{top, sum_overflow, difference_overflow, sum_carry, sum_carry_in, borrow, borrow_in, CF, ZF, SF, OF, even_formula, condition_formula}
use Rattle.lift_alu.specs.Lifted.{result}
use Rattle.lift_alu.proofs.OperandValues.{value_clean}
use Rattle.lift_alu.proofs.Words.{is_width, zero_fits, one_fits, positive, sum_in_steps, difference_in_steps, carry_of_sum, borrow_of_difference, bit-and-or}

-- the flags of the steps are those of a thread
pub record HasFlags (f : Flags) (i : IrState) : Type 0 where
  pub cf : i.flags 0 ≡ bit f.cf
  pub zf : i.flags 1 ≡ bit f.zf
  pub sf : i.flags 2 ≡ bit f.sf
  pub of : i.flags 3 ≡ bit f.of

-- the formulas of OF, CF and the result that an operation on two values is lifted to
abbrev pub overflow_of : AluOp → Width → (a b r : Formula) → Formula
overflow_of op.Add w a b r = sum_overflow w a b r
overflow_of op.Or w a b r = Number 0
overflow_of op.Adc w a b r = sum_overflow w a b r
overflow_of op.Sbb w a b r = difference_overflow w a b r
overflow_of op.And w a b r = Number 0
overflow_of op.Sub w a b r = difference_overflow w a b r
overflow_of op.Xor w a b r = Number 0
overflow_of op.Cmp w a b r = difference_overflow w a b r

abbrev pub carry_of : AluOp → (a b r : Formula) → Formula
carry_of op.Add a b r = sum_carry a r
carry_of op.Or a b r = Number 0
carry_of op.Adc a b r = sum_carry_in a r
carry_of op.Sbb a b r = borrow_in a b
carry_of op.And a b r = Number 0
carry_of op.Sub a b r = borrow a b
carry_of op.Xor a b r = Number 0
carry_of op.Cmp a b r = borrow a b

-- ---- sums and differences

-- a width has bits
some_bits : (w : Width) → 0 < bits w
some_bits w = positive (bits w) (is_width w)

-- the highest bit of a value by its formula
pub value_top : (w : Width) (i : IrState) (e : Formula) → value i (top w e) ≡ value i e / 2 ^ (bits w - 1)
value_top width.Byte i e = refl
value_top width.Word i e = refl
value_top width.Long i e = refl
value_top width.Quad i e = refl

-- a sum fits its width
sum_below : (W a b c : ℕ) → (sum_outcome W a b c).value < 2 ^ W
unfolding sum_outcome outcome
sum_below W a b c = mod_below (a + b + c) (2 ^ W) (pow_pos W)

-- a difference fits its width
difference_below : (W a b c : ℕ) → (difference_outcome W a b c).value < 2 ^ W
unfolding difference_outcome outcome
difference_below W a b c = mod_below (a + (2 ^ W - (b + c))) (2 ^ W) (pow_pos W)

-- a sum of two values
value_added : (w : Width) (i : IrState) (a b : Formula) → value i a < 2 ^ bits w → value i b < 2 ^ bits w
    → value i (clean w (Operation ops.Add a b)) ≡ (sum_outcome (bits w) (value i a) (value i b) 0).value
value_added w i a b fit fits =
    value_clean i w (Operation ops.Add a b) (mod_below (value i a + value i b) (2 ^ 64) (pow_pos 64))
    ∙ sym (add_by_words (bits w) (value i a) (value i b) ((value i a + value i b) % 2 ^ 64 % 2 ^ bits w) (is_width w) fit fits refl).value

-- a difference of two values
value_taken : (w : Width) (i : IrState) (a b : Formula) → value i a < 2 ^ bits w → value i b < 2 ^ bits w
    → value i (clean w (Operation ops.Sub a b)) ≡ (difference_outcome (bits w) (value i a) (value i b) 0).value
value_taken w i a b fit fits =
    value_clean i w (Operation ops.Sub a b) (mod_below (value i a + (2 ^ 64 - value i b)) (2 ^ 64) (pow_pos 64))
    ∙ sym (sub_by_words (bits w) (value i a) (value i b) ((value i a + (2 ^ 64 - value i b)) % 2 ^ 64 % 2 ^ bits w) (is_width w) fit fits refl).value

-- a sum of two values and the carry
value_added_carry : (w : Width) (carry : Bool) (i : IrState) (a b : Formula) → i.flags 0 ≡ bit carry → value i a < 2 ^ bits w → value i b < 2 ^ bits w
    → value i (clean w (Operation ops.Add (Operation ops.Add a b) (Flag 0))) ≡ (sum_outcome (bits w) (value i a) (value i b) (bit carry)).value
unfolding sum_outcome outcome
value_added_carry w carry i a b same fit fits =
    value_clean i w (Operation ops.Add (Operation ops.Add a b) (Flag 0)) (mod_below ((value i a + value i b) % 2 ^ 64 + i.flags 0) (2 ^ 64) (pow_pos 64))
    ∙ ap (λ c. ((value i a + value i b) % 2 ^ 64 + c) % 2 ^ 64 % 2 ^ bits w) same
    ∙ sum_in_steps (bits w) (value i a) (value i b) (bit carry) (is_width w)
    ∙ sum_cut (bits w) (value i a + value i b + bit carry) (is_width w)

-- a difference of two values and the borrow
value_taken_borrow : (w : Width) (carry : Bool) (i : IrState) (a b : Formula) → i.flags 0 ≡ bit carry → value i a < 2 ^ bits w → value i b < 2 ^ bits w
    → value i (clean w (Operation ops.Sub (Operation ops.Sub a b) (Flag 0))) ≡ (difference_outcome (bits w) (value i a) (value i b) (bit carry)).value
unfolding difference_outcome outcome
value_taken_borrow w carry i a b same fit fits =
    value_clean i w (Operation ops.Sub (Operation ops.Sub a b) (Flag 0))
    (mod_below ((value i a + (2 ^ 64 - value i b)) % 2 ^ 64 + (2 ^ 64 - i.flags 0)) (2 ^ 64) (pow_pos 64))
    ∙ ap (λ c. ((value i a + (2 ^ 64 - value i b)) % 2 ^ 64 + (2 ^ 64 - c)) % 2 ^ 64 % 2 ^ bits w) same
    ∙ difference_in_steps (bits w) (value i a) (value i b) (bit carry) (is_width w) fit fits (bit_below carry)
    ∙ difference_cut_borrow (bits w) (value i a) (value i b) (bit carry) (is_width w) fit fits (bit_below carry)

-- the overflow of a sum
value_sum_overflow : (w : Width) (i : IrState) (a b r : Formula) (c : ℕ) → value i a < 2 ^ bits w → value i b < 2 ^ bits w → c < 2
    → value i r ≡ (sum_outcome (bits w) (value i a) (value i b) c).value
    → value i (sum_overflow w a b r) ≡ bit (sum_outcome (bits w) (value i a) (value i b) c).flags.of
unfolding sum_outcome outcome
value_sum_overflow w i a b r c fit fits one is =
    let word : value i r < 2 ^ bits w = rw is (sum_below (bits w) (value i a) (value i b) c) in
    value_top w i (Operation ops.And (Operation ops.Xor a r) (Operation ops.Xor b r))
    ∙ top_and_xor (bits w) (value i a) (value i r) (value i b) (value i r) (some_bits w) fit word fits word
    ∙ ap (λ m. bit (differ (top_bit (bits w) (value i a)) (top_bit (bits w) m) && differ (top_bit (bits w) (value i b)) (top_bit (bits w) m))) is
    ∙ sym (ap bit (sum_overflows (bits w) (value i a) (value i b) c (is_width w) fit fits one))

-- the overflow of a difference
value_difference_overflow : (w : Width) (i : IrState) (a b r : Formula) (c : ℕ) → value i a < 2 ^ bits w → value i b < 2 ^ bits w → c < 2
    → value i r ≡ (difference_outcome (bits w) (value i a) (value i b) c).value
    → value i (difference_overflow w a b r) ≡ bit (difference_outcome (bits w) (value i a) (value i b) c).flags.of
unfolding difference_outcome outcome
value_difference_overflow w i a b r c fit fits one is =
    let word : value i r < 2 ^ bits w = rw is (difference_below (bits w) (value i a) (value i b) c) in
    value_top w i (Operation ops.And (Operation ops.Xor a b) (Operation ops.Xor a r))
    ∙ top_and_xor (bits w) (value i a) (value i b) (value i a) (value i r) (some_bits w) fit fits fit word
    ∙ ap (λ m. bit (differ (top_bit (bits w) (value i a)) (top_bit (bits w) (value i b)) && differ (top_bit (bits w) (value i a)) (top_bit (bits w) m))) is
    ∙ sym (ap bit (difference_overflows (bits w) (value i a) (value i b) c (is_width w) fit fits one))

-- the carry of a sum
value_sum_carry : (w : Width) (i : IrState) (a b r : Formula) → value i a < 2 ^ bits w → value i b < 2 ^ bits w
    → value i r ≡ (sum_outcome (bits w) (value i a) (value i b) 0).value → value i (sum_carry a r) ≡ bit (sum_outcome (bits w) (value i a) (value i b) 0).flags.cf
unfolding sum_outcome outcome
value_sum_carry w i a b r fit fits is =
    let none : value i a + value i b + 0 ≡ value i a + value i b = omega arith in
    ap (λ m. bit (nat_lt m (value i a))) is
    ∙ ap (λ m. bit (nat_lt (m % 2 ^ bits w) (value i a))) none
    ∙ sym (ap bit (carry_below (bits w) (value i a) (value i b) (is_width w) fit fits))
    ∙ sym (ap (λ m. bit (nat_le (2 ^ bits w) m)) none)

-- the carry of a sum with the carry
value_sum_carry_in : (w : Width) (carry : Bool) (i : IrState) (a b r : Formula) → i.flags 0 ≡ bit carry → value i a < 2 ^ bits w → value i b < 2 ^ bits w
    → value i r ≡ (sum_outcome (bits w) (value i a) (value i b) (bit carry)).value
    → value i (sum_carry_in a r) ≡ bit (sum_outcome (bits w) (value i a) (value i b) (bit carry)).flags.cf
unfolding sum_outcome outcome
value_sum_carry_in w carry i a b r same fit fits is =
    ap (λ c. bit_or (bit_and (bit (value i r == value i a)) c) (bit (nat_lt (value i r) (value i a)))) same
    ∙ ap (λ m. bit_or (bit_and (bit (m == value i a)) (bit carry)) (bit (nat_lt m (value i a)))) is
    ∙ sym (bit-and-or ((value i a + value i b + bit carry) % 2 ^ bits w == value i a) carry (nat_lt ((value i a + value i b + bit carry) % 2 ^ bits w) (value i a)))
    ∙ sym (ap bit (carry_of_sum (bits w) (value i a) (value i b) carry (is_width w) fit fits))

-- the borrow of a difference
value_borrow : (w : Width) (i : IrState) (a b : Formula) → value i (borrow a b) ≡ bit (difference_outcome (bits w) (value i a) (value i b) 0).flags.cf
unfolding difference_outcome outcome
value_borrow w i a b = let none : value i b + 0 ≡ value i b = omega arith in sym (ap (λ m. bit (nat_lt (value i a) m)) none)

-- the borrow of a difference with the borrow
value_borrow_in : (w : Width) (carry : Bool) (i : IrState) (a b : Formula) → i.flags 0 ≡ bit carry
    → value i (borrow_in a b) ≡ bit (difference_outcome (bits w) (value i a) (value i b) (bit carry)).flags.cf
unfolding difference_outcome outcome
value_borrow_in w carry i a b same =
    ap (λ c. bit_or (bit_and (bit (value i a == value i b)) c) (bit (nat_lt (value i a) (value i b)))) same
    ∙ sym (bit-and-or (value i a == value i b) carry (nat_lt (value i a) (value i b)))
    ∙ sym (ap bit (borrow_of_difference (value i a) (value i b) carry))

-- ZF says that the result is 0
zero_of : (o : AluOp) (W a b : ℕ) (f : Flags) → (alu_outcome o W a b f).flags.zf ≡ ((alu_outcome o W a b f).value == 0)
unfolding alu_outcome sum_outcome difference_outcome outcome
zero_of op.Add W a b f = refl
zero_of op.Or W a b f = refl
zero_of op.Adc W a b f = refl
zero_of op.Sbb W a b f = refl
zero_of op.And W a b f = refl
zero_of op.Sub W a b f = refl
zero_of op.Xor W a b f = refl
zero_of op.Cmp W a b f = refl

-- SF is the top bit of the result
sign_of : (o : AluOp) (W a b : ℕ) (f : Flags) → (alu_outcome o W a b f).flags.sf ≡ top_bit W (alu_outcome o W a b f).value
unfolding alu_outcome sum_outcome difference_outcome outcome
sign_of op.Add W a b f = refl
sign_of op.Or W a b f = refl
sign_of op.Adc W a b f = refl
sign_of op.Sbb W a b f = refl
sign_of op.And W a b f = refl
sign_of op.Sub W a b f = refl
sign_of op.Xor W a b f = refl
sign_of op.Cmp W a b f = refl

module _ (at after : ℕ) where
  -- the result of an operation on two values of a width, and that it fits the width
  pub value_result : (o : AluOp) (w : Width) (f : Flags) (i : IrState) (a b : Formula) → HasFlags f i → value i a < 2 ^ bits w → value i b < 2 ^ bits w
      → value i (result at after o w a b) ≡ (alu_outcome o (bits w) (value i a) (value i b) f).value
  unfolding alu_outcome outcome
  value_result op.Add w f i a b flags fit fits = value_added w i a b fit fits
  value_result op.Or w f i a b flags fit fits = refl
  value_result op.Adc w f i a b flags fit fits = value_added_carry w f.cf i a b flags.cf fit fits
  value_result op.Sbb w f i a b flags fit fits = value_taken_borrow w f.cf i a b flags.cf fit fits
  value_result op.And w f i a b flags fit fits = refl
  value_result op.Sub w f i a b flags fit fits = value_taken w i a b fit fits
  value_result op.Xor w f i a b flags fit fits = refl
  value_result op.Cmp w f i a b flags fit fits = value_taken w i a b fit fits

  pub result_below : (o : AluOp) (w : Width) (f : Flags) (a b : ℕ) → a < 2 ^ bits w → b < 2 ^ bits w → (alu_outcome o (bits w) a b f).value < 2 ^ bits w
  unfolding alu_outcome outcome
  result_below op.Add w f a b fit fits = sum_below (bits w) a b 0
  result_below op.Or w f a b fit fits = or_lt (bits w) a b fit fits
  result_below op.Adc w f a b fit fits = sum_below (bits w) a b (bit f.cf)
  result_below op.Sbb w f a b fit fits = difference_below (bits w) a b (bit f.cf)
  result_below op.And w f a b fit fits = and_lt (bits w) a b fit fits
  result_below op.Sub w f a b fit fits = difference_below (bits w) a b 0
  result_below op.Xor w f a b fit fits = xor_lt (bits w) a b fit fits
  result_below op.Cmp w f a b fit fits = difference_below (bits w) a b 0

  -- the flags of an operation on two values, from these and its result
  pub value_overflow : (o : AluOp) (w : Width) (f : Flags) (i : IrState) (a b r : Formula) → value i a < 2 ^ bits w → value i b < 2 ^ bits w
      → value i r ≡ (alu_outcome o (bits w) (value i a) (value i b) f).value → value i (overflow_of o w a b r) ≡ bit (alu_outcome o (bits w) (value i a) (value i b) f).flags.of
  unfolding alu_outcome outcome
  value_overflow op.Add w f i a b r fit fits is = value_sum_overflow w i a b r 0 fit fits (lit< tt) is
  value_overflow op.Or w f i a b r fit fits is = refl
  value_overflow op.Adc w f i a b r fit fits is = value_sum_overflow w i a b r (bit f.cf) fit fits (bit_below f.cf) is
  value_overflow op.Sbb w f i a b r fit fits is = value_difference_overflow w i a b r (bit f.cf) fit fits (bit_below f.cf) is
  value_overflow op.And w f i a b r fit fits is = refl
  value_overflow op.Sub w f i a b r fit fits is = value_difference_overflow w i a b r 0 fit fits (lit< tt) is
  value_overflow op.Xor w f i a b r fit fits is = refl
  value_overflow op.Cmp w f i a b r fit fits is = value_difference_overflow w i a b r 0 fit fits (lit< tt) is

  pub value_zero : (o : AluOp) (w : Width) (f : Flags) (i : IrState) (a b r : Formula)
      → value i r ≡ (alu_outcome o (bits w) (value i a) (value i b) f).value → value i (Operation ops.Eq r (Number 0)) ≡ bit (alu_outcome o (bits w) (value i a) (value i b) f).flags.zf
  value_zero o w f i a b r is = ap (λ m. bit (m == 0)) is ∙ sym (ap bit (zero_of o (bits w) (value i a) (value i b) f))

  pub value_sign : (o : AluOp) (w : Width) (f : Flags) (i : IrState) (a b r : Formula) → value i a < 2 ^ bits w → value i b < 2 ^ bits w
      → value i r ≡ (alu_outcome o (bits w) (value i a) (value i b) f).value → value i (top w r) ≡ bit (alu_outcome o (bits w) (value i a) (value i b) f).flags.sf
  value_sign o w f i a b r fit fits is =
      value_top w i r
      ∙ ap (λ m. m / 2 ^ (bits w - 1)) is
      ∙ top_bit_is (bits w) (alu_outcome o (bits w) (value i a) (value i b) f).value (some_bits w) (result_below o w f (value i a) (value i b) fit fits)
      ∙ sym (ap bit (sign_of o (bits w) (value i a) (value i b) f))

  -- CF is computed last, where the flag CF of the steps is still the one before
  pub value_carry : (o : AluOp) (w : Width) (f : Flags) (i : IrState) (a b r : Formula) → i.flags 0 ≡ bit f.cf → value i a < 2 ^ bits w → value i b < 2 ^ bits w
      → value i r ≡ (alu_outcome o (bits w) (value i a) (value i b) f).value → value i (carry_of o a b r) ≡ bit (alu_outcome o (bits w) (value i a) (value i b) f).flags.cf
  unfolding alu_outcome outcome
  value_carry op.Add w f i a b r carry fit fits is = value_sum_carry w i a b r fit fits is
  value_carry op.Or w f i a b r carry fit fits is = refl
  value_carry op.Adc w f i a b r carry fit fits is = value_sum_carry_in w f.cf i a b r carry fit fits is
  value_carry op.Sbb w f i a b r carry fit fits is = value_borrow_in w f.cf i a b carry
  value_carry op.And w f i a b r carry fit fits is = refl
  value_carry op.Sub w f i a b r carry fit fits is = value_borrow w i a b
  value_carry op.Xor w f i a b r carry fit fits is = refl
  value_carry op.Cmp w f i a b r carry fit fits is = value_borrow w i a b

-- INC and DEC: the result, and the three flags that it sets; CF stays
pub record StepsOutcome (w : Width) (f : Flags) (i : IrState) (a r overflow : Formula) (after : Flags) : Type 0 where
  pub cf : after.cf ≡ f.cf
  pub zf : value i (Operation ops.Eq r (Number 0)) ≡ bit after.zf
  pub sf : value i (top w r) ≡ bit after.sf
  pub of : value i overflow ≡ bit after.of

pub value_inc : (w : Width) (f : Flags) (i : IrState) (a : Formula) → value i a < 2 ^ bits w
    → value i (clean w (Operation ops.Add a (Number 1))) ≡ (inc_outcome (bits w) (value i a) f).value
unfolding inc_outcome
value_inc w f i a fit = value_added w i a (Number 1) fit (one_fits (bits w) (is_width w))

pub flags_inc : (w : Width) (f : Flags) (i : IrState) (a r : Formula) → value i a < 2 ^ bits w → value i r ≡ (inc_outcome (bits w) (value i a) f).value
    → StepsOutcome w f i a r (sum_overflow w a (Number 1) r) (inc_outcome (bits w) (value i a) f).flags
unfolding inc_outcome alu_outcome sum_outcome outcome
flags_inc w f i a r fit is =
    let one : 1 < 2 ^ bits w = one_fits (bits w) (is_width w) in
    record {
      cf = refl;
      zf = value_zero 0 0 op.Add w f i a (Number 1) r is;
      sf = value_sign 0 0 op.Add w f i a (Number 1) r fit one is;
      of = value_sum_overflow w i a (Number 1) r 0 fit one (lit< tt) is;
    }

pub value_dec : (w : Width) (f : Flags) (i : IrState) (a : Formula) → value i a < 2 ^ bits w
    → value i (clean w (Operation ops.Sub a (Number 1))) ≡ (dec_outcome (bits w) (value i a) f).value
unfolding dec_outcome
value_dec w f i a fit = value_taken w i a (Number 1) fit (one_fits (bits w) (is_width w))

pub flags_dec : (w : Width) (f : Flags) (i : IrState) (a r : Formula) → value i a < 2 ^ bits w → value i r ≡ (dec_outcome (bits w) (value i a) f).value
    → StepsOutcome w f i a r (difference_overflow w a (Number 1) r) (dec_outcome (bits w) (value i a) f).flags
unfolding dec_outcome alu_outcome difference_outcome outcome
flags_dec w f i a r fit is =
    let one : 1 < 2 ^ bits w = one_fits (bits w) (is_width w) in
    record {
      cf = refl;
      zf = value_zero 0 0 op.Sub w f i a (Number 1) r is;
      sf = value_sign 0 0 op.Sub w f i a (Number 1) r fit one is;
      of = value_difference_overflow w i a (Number 1) r 0 fit one (lit< tt) is;
    }

-- flags none of which is set
no_flags : Flags
no_flags = record { cf = false; zf = false; sf = false; of = false }

-- the overflow of a difference from 0
value_neg_overflow : (w : Width) (i : IrState) (a r : Formula)
    → value i (top w (Operation ops.And a r)) ≡ value i (difference_overflow w (Number 0) a r)
value_neg_overflow w i a r =
    value_top w i (Operation ops.And a r)
    ∙ ap (λ m. bit_and m (value i r) / 2 ^ (bits w - 1)) (sym (xor_zero_l (value i a)))
    ∙ ap (λ m. bit_and (bit_xor 0 (value i a)) m / 2 ^ (bits w - 1)) (sym (xor_zero_l (value i r)))
    ∙ sym (value_top w i (Operation ops.And (Operation ops.Xor (Number 0) a) (Operation ops.Xor (Number 0) r)))

-- NEG: the result and its four flags
pub value_neg : (w : Width) (i : IrState) (a : Formula) → value i a < 2 ^ bits w → value i (clean w (Operation ops.Sub (Number 0) a)) ≡ (neg_outcome (bits w) (value i a)).value
value_neg w i a fit = value_taken w i (Number 0) a (zero_fits (bits w) (is_width w)) fit

pub record NegOutcome (w : Width) (i : IrState) (a r : Formula) (after : Flags) : Type 0 where
  pub cf : value i (borrow (Number 0) a) ≡ bit after.cf
  pub zf : value i (Operation ops.Eq r (Number 0)) ≡ bit after.zf
  pub sf : value i (top w r) ≡ bit after.sf
  pub of : value i (top w (Operation ops.And a r)) ≡ bit after.of

pub flags_neg : (w : Width) (i : IrState) (a r : Formula) → value i a < 2 ^ bits w → value i r ≡ (neg_outcome (bits w) (value i a)).value
    → NegOutcome w i a r (neg_outcome (bits w) (value i a)).flags
unfolding alu_outcome
flags_neg w i a r fit is =
    let none : 0 < 2 ^ bits w = zero_fits (bits w) (is_width w) in
    record {
      cf = value_borrow w i (Number 0) a;
      zf = value_zero 0 0 op.Sub w no_flags i (Number 0) a r is;
      sf = value_sign 0 0 op.Sub w no_flags i (Number 0) a r none fit is;
      of = value_neg_overflow w i a r ∙ value_difference_overflow w i (Number 0) a r 0 none fit (lit< tt) is;
    }

-- NOT turns each bit of the width round
pub value_not : (w : Width) (i : IrState) (a : Formula) → value i a < 2 ^ bits w → value i (Operation ops.Xor a (Number (ones (bits w)))) ≡ not_value (bits w) (value i a)
value_not w i a fit = not_by_xor (bits w) (value i a) fit

-- ---- conditions

-- the value of one of two formulas
value_either : (test : Bool) (i : IrState) (a b : Formula) (p q : Bool) → value i a ≡ bit p → value i b ≡ bit q
    → value i (if test then a else b) ≡ bit (if test then p else q)
value_either true i a b p q first second = first
value_either false i a b p q first second = second

-- SF differs from OF
value_less : (f : Flags) (i : IrState) → HasFlags f i → value i (Operation ops.Xor (Flag SF) (Flag OF)) ≡ bit (differ f.sf f.of)
value_less f i flags = ap (λ m. bit_xor m (i.flags 3)) flags.sf ∙ ap (λ m. bit_xor (bit f.sf) m) flags.of ∙ sym (bit-differ f.sf f.of)

-- the condition of an even code
value_even : (code : ℕ) (f : Flags) (i : IrState) → HasFlags f i → value i (even_formula code) ≡ bit (even_condition code f)
value_even code f i flags =
    let less = value_less f i flags in
    let below : value i (Operation ops.Or (Flag CF) (Flag ZF)) ≡ bit (f.cf || f.zf) =
    ap (λ m. bit_or m (i.flags 1)) flags.cf ∙ ap (λ m. bit_or (bit f.cf) m) flags.zf ∙ sym (bit-or f.cf f.zf) in
    let at_most : value i (Operation ops.Or (Flag ZF) (Operation ops.Xor (Flag SF) (Flag OF))) ≡ bit (f.zf || differ f.sf f.of) =
    ap (λ m. bit_or m (bit_xor (i.flags 2) (i.flags 3))) flags.zf ∙ ap (λ m. bit_or (bit f.zf) m) less ∙ sym (bit-or f.zf (differ f.sf f.of)) in
    value_either (code == 0) i _ _ _ _ flags.of
    (value_either (code == 2) i _ _ _ _ flags.cf
    (value_either (code == 4) i _ _ _ _ flags.zf
    (value_either (code == 6) i _ _ _ _ below
    (value_either (code == 8) i _ _ _ _ flags.sf
    (value_either (code == 12) i _ _ _ _ less at_most)))))

-- the condition of a code, by whether it is odd
value_by_parity : (odd : Bool) (code rest : ℕ) (f : Flags) (i : IrState) → HasFlags f i → rest ≡ bit odd
    → value i (if odd then Operation ops.Xor (even_formula (code - 1)) (Number 1) else even_formula code) ≡ bit (differ odd (even_condition (code - rest) f))
value_by_parity true code rest f i flags is =
    ap (λ m. bit_xor m 1) (value_even (code - 1) f i flags)
    ∙ sym (bit-not (even_condition (code - 1) f))
    ∙ ap (λ m. bit (not (even_condition (code - m) f))) (sym is)
value_by_parity false code rest f i flags is =
    let same : code - 0 ≡ code = omega arith in
    value_even code f i flags ∙ ap (λ m. bit (even_condition m f)) (sym same) ∙ ap (λ m. bit (even_condition (code - m) f)) (sym is)

-- the parity of a number
pub parity : (n : ℕ) → n % 2 ≡ bit (n % 2 == 1)
parity n = grind (arith, nat_tests)

-- a condition
pub value_condition : (c : Cond) (f : Flags) (i : IrState) → IsCondition c → HasFlags f i → value i (condition_formula c.code) ≡ bit (condition c.code f)
unfolding condition_formula condition
value_condition c f i is flags = value_by_parity (c.code % 2 == 1) c.code (c.code % 2) f i flags (parity c.code)
