-- The formulas of rotates (Intel SDM, volume 2, RCL/RCR/ROL/ROR).
use Rattle.std.specs.Prelude.{◌-◌, ◌%◌}
use Rattle.alu_width.specs.declared.operations.Rotate.{Rotate}
use Rattle.alu_width.specs.declared.operations.Rotate.TheVariants.{Rol, Ror}
use Rattle.x64_syntax.specs.Operands.{bits}
use Rattle.x64_syntax.specs.declared.operand.Width.{Width}
use Rattle.x64_syntax.specs.declared.operand.Width.TheVariants as width
use Rattle.limm_ir.specs.declared.step.IrOp.TheVariants as ops
use Rattle.limm_ir.specs.declared.step.Temp.{Temp}
use Rattle.lift_alu.specs.declared.shifts.Count.{Count}
use Rattle.lift_alu.specs.declared.shifts.Count.TheVariants.{Fixed, InTemp}
use Rattle.lift_alu.specs.Formulas.{Formula, Kept, Number, Operation, Lifting, sets_flag}
use Rattle.lift_alu.specs.Operands.{clean}
use Rattle.lift_alu.specs.Flags.{CF, OF, top}
use Rattle.lift_alu.specs.Shifts.{at_one, unless_zero, lowest_bit}

-- a count that a temporary holds modulo a width; at 32 and 64 bits it is below the width
abbrev pub kept_turn : Width → (t : Temp) → Formula
kept_turn width.Byte t = Operation ops.And (Kept t.0) (Number 7)
kept_turn width.Word t = Operation ops.And (Kept t.0) (Number 15)
kept_turn w t = Kept t.0

-- the count modulo a width: so many places are turned
abbrev pub turn : Width → Count → Formula
turn w (Fixed n) = Number (n % bits w)
turn w (InTemp t) = kept_turn w t

-- the bits of a width without the places that are turned
abbrev pub rest_of_turn : Width → Count → Formula
rest_of_turn w (Fixed n) = Number (bits w - n % bits w)
rest_of_turn w (InTemp t) = Operation ops.Sub (Number (bits w)) (kept_turn w t)

-- a value of 64 bits, turned: to the left is as far to the right as there are bits left
abbrev pub whole_turned : Rotate → Count → (a : Formula) → Formula
whole_turned Rol c a = Operation ops.Ror a (rest_of_turn width.Quad c)
whole_turned Ror c a = Operation ops.Ror a (turn width.Quad c)

-- the bits that leave a value of a width at one end, beside those that come in at the other
abbrev pub parts_turned : Rotate → Width → Count → (a : Formula) → Formula
parts_turned Rol w c a = Operation ops.Or (Operation ops.Shr a (rest_of_turn w c)) (Operation ops.Shl a (turn w c))
parts_turned Ror w c a = Operation ops.Or (Operation ops.Shl a (rest_of_turn w c)) (Operation ops.Shr a (turn w c))

-- a value of a width, turned
abbrev pub turn_formula : Rotate → Width → Count → (a : Formula) → Formula
turn_formula o width.Quad c a = whole_turned o c a
turn_formula o w c a = clean w (parts_turned o w c a)

-- CF of what was turned: the bit that came in
abbrev pub turn_carry : Rotate → Width → (r : Formula) → Formula
turn_carry Rol w r = lowest_bit r
turn_carry Ror w r = top w r

-- OF where the count is 1: for ROL the highest bit differs from CF, for ROR from the bit below it
abbrev pub turn_overflow : Rotate → Width → (r : Formula) → Formula
turn_overflow Rol w r = Operation ops.Xor (lowest_bit r) (top w r)
turn_overflow Ror w r = Operation ops.Xor (lowest_bit (Operation ops.Shr r (Number (bits w - 2)))) (top w r)

-- OF and CF of what was turned; the other flags stay
unfoldable pub turn_flags : Rotate → Width → Count → (a r : Formula) → Lifting → Lifting
turn_flags o w c a r rest =
    sets_flag OF (unless_zero c OF (at_one c (turn_overflow o w r))) (sets_flag CF (unless_zero c CF (turn_carry o w r)) rest)
