-- The formulas of shifts, by a count that is a number or that a temporary holds (Intel SDM, volume 2, SAL/SAR/SHL/SHR).
use Rattle.std.specs.Prelude.{ℕ, ◌-◌, ◌==◌, nat_lt, if◌then◌else◌}
use Rattle.alu_width.specs.declared.operations.Shift.{Shift}
use Rattle.alu_width.specs.declared.operations.Shift.TheVariants.{Shl, Shr, Sar}
use Rattle.x64_syntax.specs.Operands.{bits}
use Rattle.x64_syntax.specs.declared.operand.Reg.{Reg}
use Rattle.x64_syntax.specs.declared.operand.Width.{Width}
use Rattle.x64_syntax.specs.declared.operand.Width.TheVariants as width
use Rattle.limm_ir.specs.declared.step.IrOp.TheVariants as ops
use Rattle.limm_ir.specs.declared.step.Temp.{Temp}
use Rattle.lift_alu.specs.declared.shifts.Count.{Count}
use Rattle.lift_alu.specs.declared.shifts.Count.TheVariants.{Fixed, InTemp}
use Rattle.lift_alu.specs.Formulas.{Formula, Kept, Number, Register, Flag, Operation, Choice, Lifting, sets_flag}
use Rattle.lift_alu.specs.Operands.{clean, with_sign}
use Rattle.lift_alu.specs.Flags.{CF, ZF, SF, OF, top}

-- the masked count in a register, CL
abbrev pub masked_formula : Width → Reg → Formula
masked_formula width.Quad r = Operation ops.And (Register r.number) (Number 63)
masked_formula w r = Operation ops.And (Register r.number) (Number 31)

-- the count
abbrev pub amount : Count → Formula
amount (Fixed n) = Number n
amount (InTemp t) = Kept t.0

-- one less than the count
abbrev pub one_less : Count → Formula
one_less (Fixed n) = Number (n - 1)
one_less (InTemp t) = Operation ops.Sub (Kept t.0) (Number 1)

-- the bits of a width without the count
abbrev pub rest_of_width : Width → Count → Formula
rest_of_width w (Fixed n) = Number (bits w - n)
rest_of_width w (InTemp t) = Operation ops.Sub (Number (bits w)) (Kept t.0)

-- a flag where a count that a temporary holds is below the width, which it always is at 32 and 64 bits; else 0
abbrev pub kept_below_width : Width → (t : Temp) → Formula → Formula
kept_below_width width.Byte t e = Operation ops.And e (Operation ops.LessU (Kept t.0) (Number 8))
kept_below_width width.Word t e = Operation ops.And e (Operation ops.LessU (Kept t.0) (Number 16))
kept_below_width w t e = e

-- a flag where the count is below the width, and else 0
abbrev pub below_width : Width → Count → Formula → Formula
below_width w (Fixed n) e = if nat_lt n (bits w) then e else Number 0
below_width w (InTemp t) e = kept_below_width w t e

-- a flag where the count is 1, and else 0
abbrev pub at_one : Count → Formula → Formula
at_one (Fixed n) e = if n == 1 then e else Number 0
at_one (InTemp t) e = Operation ops.And e (Operation ops.Eq (Kept t.0) (Number 1))

-- what a flag becomes: it stays where the count is 0
abbrev pub unless_zero : Count → (f : ℕ) → Formula → Formula
unless_zero (Fixed n) f e = e
unless_zero (InTemp t) f e = Choice (Kept t.0) e (Flag f)

-- the lowest bit
abbrev pub lowest_bit : Formula → Formula
lowest_bit e = Operation ops.And e (Number 1)

-- ---- shifts

-- a value of a width, shifted
abbrev pub shift_formula : Shift → Width → Count → (a : Formula) → Formula
shift_formula Shl w c a = clean w (Operation ops.Shl a (amount c))
shift_formula Shr w c a = Operation ops.Shr a (amount c)
shift_formula Sar w c a = clean w (Operation ops.Sar (with_sign w a) (amount c))

-- the last bit out of a value: SHL and SHR by the width or more leave 0
abbrev pub shift_carry : Shift → Width → Count → (a : Formula) → Formula
shift_carry Shl w c a = below_width w c (lowest_bit (Operation ops.Shr a (rest_of_width w c)))
shift_carry Shr w c a = below_width w c (lowest_bit (Operation ops.Shr a (one_less c)))
shift_carry Sar w c a = lowest_bit (Operation ops.Sar (with_sign w a) (one_less c))

-- OF of a value that becomes r: for SHL by 1 their signs differ, for SHR by 1 the value's sign, and else 0
abbrev pub shift_overflow : Shift → Width → Count → (a r : Formula) → Formula
shift_overflow Shl w c a r = at_one c (top w (Operation ops.Xor a r))
shift_overflow Shr w c a r = at_one c (top w a)
shift_overflow Sar w c a r = Number 0

-- all four flags of a value that becomes r
unfoldable pub shift_flags : Shift → Width → Count → (a r : Formula) → Lifting → Lifting
shift_flags o w c a r rest =
    sets_flag OF (unless_zero c OF (shift_overflow o w c a r))
    (sets_flag ZF (unless_zero c ZF (Operation ops.Eq r (Number 0)))
    (sets_flag SF (unless_zero c SF (top w r))
    (sets_flag CF (unless_zero c CF (shift_carry o w c a)) rest)))
