-- The formulas of products, and the flags of MUL and IMUL.
use Rattle.std.specs.Prelude.{Bool, true, false}
use Rattle.x64_syntax.specs.Operands.{bits}
use Rattle.x64_syntax.specs.declared.operand.Width.{Width}
use Rattle.x64_syntax.specs.declared.operand.Width.TheVariants as width
use Rattle.limm_ir.specs.declared.step.IrOp.TheVariants as ops
use Rattle.lift_alu.specs.Formulas.{Formula, Number, Operation, Lifting, keeps, sets_flag}
use Rattle.lift_alu.specs.Operands.{clean, with_sign}
use Rattle.lift_alu.specs.Flags.{CF, ZF, SF, OF}

-- whether two values differ
abbrev pub differs : (a b : Formula) → Formula
differs a b = Operation ops.Xor (Operation ops.Eq a b) (Number 1)

-- the low bits of a value as 64 bits, by zeros (false) or by the sign (true)
abbrev pub extension : (sign : Bool) → Width → Formula → Formula
extension false w e = clean w e
extension true w e = with_sign w e

-- the low bits of a value that has no others where it has no sign
abbrev pub cut : (sign : Bool) → Width → Formula → Formula
cut false w e = e
cut true w e = clean w e

-- 64 bits of the product of two values, without sign (false) or of what they mean (true)
abbrev pub product_formula : (sign : Bool) → Width → (a b : Formula) → Formula
product_formula false w a b = Operation ops.Mul a b
product_formula true w a b = Operation ops.Mul (with_sign w a) (with_sign w b)

-- the upper half of the double product of two values of 64 bits
abbrev pub upper_word : (sign : Bool) → (a b : Formula) → Formula
upper_word false a b = Operation ops.HighU a b
upper_word true a b = Operation ops.HighS a b

-- the upper half of the double product of two values, of which p is what 64 bits hold
abbrev pub high_formula : (sign : Bool) → Width → (a b p : Formula) → Formula
high_formula sign width.Quad a b p = upper_word sign a b
high_formula sign w a b p = cut sign w (Operation ops.Shr p (Number (bits w)))

-- 64 zeros, or copies of a value's sign
abbrev pub filling : (sign : Bool) → Formula → Formula
filling false p = Number 0
filling true p = Operation ops.Sar p (Number 63)

-- whether the double product is more than its low half, from what 64 bits hold of it and, of 64 bits, from its upper half
abbrev pub over_formula : (sign : Bool) → Width → (high p : Formula) → Formula
over_formula sign width.Quad high p = differs high (filling sign p)
over_formula sign w high p = differs p (extension sign w p)

-- CF and OF get one value, and ZF and SF another
unfoldable pub sets_pairs : (over other : Formula) → Lifting → Lifting
sets_pairs over other rest = sets_flag OF over (sets_flag ZF other (sets_flag SF other (sets_flag CF over rest)))

-- the flags of a product: CF and OF say that it is more than its low half, and ZF and SF are 0
unfoldable pub sets_over : (over : Formula) → Lifting → Lifting
sets_over over rest = keeps over (λ o. keeps (Number 0) (λ zero. sets_pairs o zero rest))
