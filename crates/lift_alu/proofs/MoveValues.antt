-- The values of the formulas of moves that extend, fill or choose.
use Rattle.std.proofs.Common.{◌≡◌, ℕ, ◌%◌, ◌^◌, ◌<◌, ◌≤◌, ◌==◌, Bool, true, false, inl, inr, refl, sym, ap, ◌∙◌, subst, arith}
use Rattle.std.specs.Prelude.{pos, if◌then◌else◌}
use Rattle.std.specs.Int.{int_div_euclid}
use Rattle.std.proofs.lemmas.Bool.Decides.{nat_tests}
use Rattle.std.proofs.lemmas.Int.{ints}
use Rattle.word_arith.specs.Width.{IsWidth}
use Rattle.word_arith.specs.Bits.{bit, top_bit}
use Rattle.word_arith.specs.Masks.{ones}
use Rattle.word_arith.specs.Signed.{signed, low_bits, sign_extend}
use Rattle.word_arith.proofs.CallerLemmas.{sign_extend_below, low_bits-mod, low_bits_below, sar_extended}
use Rattle.x64_syntax.specs.Operands.{bits}
use Rattle.x64_syntax.specs.declared.operand.Width.{Width}
use Rattle.x64_syntax.specs.declared.operand.Width.TheVariants as width
use Rattle.x64_table.specs.Outcomes.{filled}
use Rattle.limm_ir.specs.Steps.{IrState}
use Rattle.limm_ir.specs.declared.step.IrOp.TheVariants as ops
use Rattle.lift_alu.specs.Formulas.{Formula, Number, Operation, Choice, value}
use Rattle.lift_alu.specs.Operands.{clean, with_sign}
use Rattle.lift_alu.proofs.OperandValues.{value_clean, value_with_sign}
use Rattle.lift_alu.proofs.OperandRules.{low_of_fit}

-- widths in bits
pub is_width : (w : Width) → IsWidth (bits w)
is_width width.Byte = inl refl
is_width width.Word = inr (inl refl)
is_width width.Long = inr (inr (inl refl))
is_width width.Quad = inr (inr (inr refl))

-- some bits
pub width_some : (w : Width) → 0 < bits w
width_some width.Byte = omega arith
width_some width.Word = omega arith
width_some width.Long = omega arith
width_some width.Quad = omega arith

-- and at most 64
pub width_most : (w : Width) → bits w ≤ 64
width_most width.Byte = omega arith
width_most width.Word = omega arith
width_most width.Long = omega arith
width_most width.Quad = omega arith

-- a value of a width with its sign, cut to another width
pub value_extended : (i : IrState) (w v : Width) (e : Formula) (a : ℕ) → value i e ≡ a → a < 2 ^ bits v → value i (clean w (with_sign v e)) ≡ sign_extend (bits w) (bits v) a % 2 ^ bits w
value_extended i w v e a is fit =
    let wide : value i (with_sign v e) ≡ sign_extend 64 (bits v) a = value_with_sign i v e (subst (λ k. k < 2 ^ bits v) (sym is) fit) ∙ ap (λ k. sign_extend 64 (bits v) k) is in
    value_clean i w (with_sign v e) (subst (λ k. k < 2 ^ 64) (sym wide) (sign_extend_below 64 (bits v) a))
    ∙ ap (λ k. k % 2 ^ bits w) wide
    ∙ low_bits-mod 64 (bits w) (signed (bits v) a) (width_most w)
    ∙ low_of_fit w (sign_extend (bits w) (bits v) a) (low_bits_below (bits w) (signed (bits v) a))

-- a shift by 63 to the right leaves the sign alone
fills : (W a : ℕ) → IsWidth W → a < 2 ^ W → low_bits W (int_div_euclid (signed W a) (pos (2 ^ 63))) ≡ filled W a
unfolding signed low_bits top_bit filled
fills W a width fit = grind (arith, nat_tests, ints)

-- copies of the sign fit the width
filled_below : (W a : ℕ) → IsWidth W → filled W a < 2 ^ W
unfolding filled
filled_below W a width = by (top_bit W a)
  where
    by : (b : Bool) → (if b then ones W else 0) < 2 ^ W
    by true = grind (arith, nat_tests)
    by false = grind (arith, nat_tests)

-- a width of copies of the sign
pub value_filled : (i : IrState) (w : Width) (e : Formula) (a : ℕ) → value i e ≡ a → a < 2 ^ bits w
    → value i (clean w (Operation ops.Sar (with_sign w e) (Number 63))) ≡ filled (bits w) a % 2 ^ bits w
value_filled i w e a is fit =
    let sar = Operation ops.Sar (with_sign w e) (Number 63) in
    let wide : value i (with_sign w e) ≡ sign_extend 64 (bits w) a = value_with_sign i w e (subst (λ k. k < 2 ^ bits w) (sym is) fit) ∙ ap (λ k. sign_extend 64 (bits w) k) is in
    value_clean i w sar (low_bits_below 64 (int_div_euclid (signed 64 (value i (with_sign w e))) (pos (2 ^ 63))))
    ∙ ap (λ k. low_bits 64 (int_div_euclid (signed 64 k) (pos (2 ^ 63))) % 2 ^ bits w) wide
    ∙ sar_extended 64 (bits w) a 63 (width_some w) (width_most w) fit
    ∙ fills (bits w) a (is_width w) fit
    ∙ low_of_fit w (filled (bits w) a) (filled_below (bits w) a (is_width w))

-- one of two values by a flag
pub value_choice : (i : IrState) (c x y : Formula) (b : Bool) → value i c ≡ bit b → value i (Choice c x y) ≡ (if b then value i x else value i y)
value_choice i c x y b is = ap (λ k. if k == 0 then value i y else value i x) is ∙ by b
  where
    by : (b : Bool) → (if bit b == 0 then value i y else value i x) ≡ (if b then value i x else value i y)
    by true = refl
    by false = refl
