-- The formulas of divisions, their traps and their flags.
use Rattle.std.specs.Prelude.{◌+◌, ◌++◌, ◌∷◌, Bool, true, false}
use Rattle.ev_graph.specs.declared.events.TrapKind.{TrapKind}
use Rattle.x64_syntax.specs.Operands.{bits}
use Rattle.x64_syntax.specs.declared.operand.Width.{Width}
use Rattle.x64_syntax.specs.declared.operand.Width.TheVariants as width
use Rattle.x64_table.specs.State.{rax, rdx}
use Rattle.limm_ir.specs.declared.step.IrOp.TheVariants as ops
use Rattle.limm_ir.specs.declared.step.IrStep.TheVariants as steps
use Rattle.lift_alu.specs.Formulas.{Formula, Number, Register, Operation, Lifting, temp, size, place, computes, keeps}
use Rattle.lift_alu.specs.Operands.{clean, with_sign, register_formula}
use Rattle.lift_alu.specs.Products.{cut, sets_pairs}

-- the thread ends where a value is not 0
unfoldable pub traps_if : TrapKind → Formula → Lifting → Lifting
traps_if kind e rest next = computes next e ++ steps.TrapIf (temp (place next e)) kind ∷ rest (next + size e)

-- twice a width, at most 64 bits
abbrev pub double : Width → Width
double width.Byte = width.Word
double width.Word = width.Long
double w = width.Quad

-- the double word in the accumulator and its upper half: of 8 bits it is AX
abbrev pub double_word : Width → Formula
double_word width.Byte = Register 0
double_word w = Operation ops.Or (Operation ops.Shl (register_formula w rdx) (Number (bits w))) (register_formula w rax)

-- the dividend, as 64 bits
abbrev pub dividend_formula : (sign : Bool) → Width → Formula
dividend_formula false width.Byte = clean width.Word (double_word width.Byte)
dividend_formula false w = double_word w
dividend_formula true w = with_sign (double w) (double_word w)

-- the divisor, as 64 bits
abbrev pub divisor_formula : (sign : Bool) → Width → Formula → Formula
divisor_formula false w d = d
divisor_formula true w d = with_sign w d

-- 64 bits of the quotient
abbrev pub quotient_formula : (sign : Bool) → (n d : Formula) → Formula
quotient_formula false n d = Operation ops.DivU n d
quotient_formula true n d = Operation ops.DivS n d

-- a value that is 0 just where the quotient fits the width
abbrev pub range_formula : (sign : Bool) → Width → (q : Formula) → Formula
range_formula false w q = Operation ops.Shr q (Number (bits w))
range_formula true w q = Operation ops.Xor q (with_sign w q)

-- what the quotient's product leaves of the dividend
abbrev pub remainder_formula : (n d q : Formula) → Formula
remainder_formula n d q = Operation ops.Sub n (Operation ops.Mul q d)

-- the remainder above the quotient, as AX gets both
abbrev pub bytes_formula : (sign : Bool) → (q r : Formula) → Formula
bytes_formula sign q r = Operation ops.Or (Operation ops.Shl (cut sign width.Byte r) (Number 8)) (cut sign width.Byte q)

-- all four flags are 0
unfoldable pub sets_zeros : Lifting → Lifting
sets_zeros rest = keeps (Number 0) (λ zero. sets_pairs zero zero rest)
