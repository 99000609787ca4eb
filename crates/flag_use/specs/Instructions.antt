-- What each instruction does to the four flags and which of them it reads (Intel SDM volume 2, "Flags Affected" of each
-- instruction). The rows are those of the table that also gives the flags' values.
use Rattle.std.specs.Prelude.{◌≡◌, ℕ, ◌-◌, ◌%◌, Bool, true, false, ◌==◌, ◌||◌}
use Rattle.alu_width.specs.declared.flags.Flags.{Flags}
use Rattle.alu_width.specs.declared.operations.Shift.TheVariants as shift
use Rattle.alu_width.specs.Conditions.{condition}
use Rattle.alu_width.specs.Masked.{masked}
use Rattle.alu_width.specs.Effects.{Effect, Effects, no_effects, sum_effects, step_effects, product_effects, quotient_effects, shift_effects, turn_effects, shift_by_cl_effects, turn_by_cl_effects}
use Rattle.x64_syntax.specs.Formed.{IsCondition}
use Rattle.x64_syntax.specs.Operands.{bits}
use Rattle.x64_syntax.specs.declared.instr.AluOp.{AluOp}
use Rattle.x64_syntax.specs.declared.instr.AluOp.TheVariants as op
use Rattle.x64_syntax.specs.declared.instr.ShiftOp.{ShiftOp}
use Rattle.x64_syntax.specs.declared.instr.ShiftOp.TheVariants as turn
use Rattle.x64_syntax.specs.declared.instr.Instr.{Instr}
use Rattle.x64_syntax.specs.declared.instr.Instr.TheVariants as instr
use Rattle.x64_syntax.specs.declared.operand.Cond.{Cond}
use Rattle.x64_syntax.specs.declared.operand.Operand.{Operand}
use Rattle.x64_syntax.specs.declared.operand.Operand.TheVariants as operand
use Rattle.flag_use.specs.declared.flag.Flag.{Flag}
use Rattle.flag_use.specs.declared.flag.Flag.TheVariants.{Cf, Zf, Sf, Of}

-- ---- what instructions do to flags

-- a shift or a rotate of W bits by the masked count n
abbrev pub by_number : ShiftOp → (W n : ℕ) → Effects
by_number turn.Rol W n = turn_effects n
by_number turn.Ror W n = turn_effects n
by_number turn.Shl W n = shift_effects shift.Shl W n
by_number turn.Shr W n = shift_effects shift.Shr W n
by_number turn.Sar W n = shift_effects shift.Sar W n

-- a shift or a rotate of W bits by CL
abbrev pub by_cl : ShiftOp → (W : ℕ) → Effects
by_cl turn.Rol W = turn_by_cl_effects
by_cl turn.Ror W = turn_by_cl_effects
by_cl turn.Shl W = shift_by_cl_effects shift.Shl W
by_cl turn.Shr W = shift_by_cl_effects shift.Shr W
by_cl turn.Sar W = shift_by_cl_effects shift.Sar W

-- a shift or a rotate by a count: a number, of which the low bits count, or CL
abbrev pub by_count : ShiftOp → (W : ℕ) → (count : Operand) → Effects
by_count o W (operand.Imm n) = by_number o W (masked W n)
by_count o W count = by_cl o W

-- the table: what an instruction does to the flags
abbrev pub effects_of : Instr → Effects
effects_of (instr.Alu o w to from locked) = sum_effects
effects_of (instr.Test w to from) = sum_effects
effects_of (instr.Neg w to) = sum_effects
effects_of (instr.Cmpxchg w to from locked) = sum_effects
effects_of (instr.Xadd w to from locked) = sum_effects
effects_of (instr.Inc w to locked) = step_effects
effects_of (instr.Dec w to locked) = step_effects
effects_of (instr.Mul w from) = product_effects
effects_of (instr.ImulOne w from) = product_effects
effects_of (instr.ImulTwo w to from) = product_effects
effects_of (instr.ImulThree w to from by) = product_effects
effects_of (instr.Div w from) = quotient_effects
effects_of (instr.Idiv w from) = quotient_effects
effects_of (instr.Shift o w to by) = by_count o (bits w) by
effects_of i = no_effects

-- what becomes of one flag
abbrev pub effect_on : Flag → Effects → Effect
effect_on Cf e = e.cf
effect_on Zf e = e.zf
effect_on Sf e = e.sf
effect_on Of e = e.of

-- ---- which flags instructions read

-- whether the condition of an even code reads a flag: O 0, B 2, Z 4, BE 6, S 8, L 12, LE 14
abbrev pub even_reads : Flag → (code : ℕ) → Bool
even_reads Cf code = code == 2 || code == 6
even_reads Zf code = code == 4 || code == 6 || code == 14
even_reads Sf code = code == 8 || code == 12 || code == 14
even_reads Of code = code == 0 || code == 12 || code == 14

-- whether the condition of a code reads a flag: an odd code is the opposite of the even one below it
abbrev pub condition_reads : Flag → (code : ℕ) → Bool
condition_reads flag code = even_reads flag (code - code % 2)

-- whether the flag is the carry
abbrev pub is_carry : Flag → Bool
is_carry Cf = true
is_carry flag = false

-- whether an operation reads a flag: ADC and SBB read the carry
abbrev pub operation_reads : Flag → AluOp → Bool
operation_reads flag op.Adc = is_carry flag
operation_reads flag op.Sbb = is_carry flag
operation_reads flag o = false

-- whether an instruction reads a flag: Jcc, SETcc and CMOVcc those of their condition, ADC and SBB the carry
abbrev pub reads : Flag → Instr → Bool
reads flag (instr.Jcc c displacement) = condition_reads flag c.code
reads flag (instr.SetCc c to) = condition_reads flag c.code
reads flag (instr.CmovCc c w to from) = condition_reads flag c.code
reads flag (instr.Alu o w to from locked) = operation_reads flag o
reads flag i = false

-- ---- the law of conditions

-- the value of a flag
abbrev pub flag_value : Flag → Flags → Bool
flag_value Cf f = f.cf
flag_value Zf f = f.zf
flag_value Sf f = f.sf
flag_value Of f = f.of

-- A condition is decided by the flags that it reads: where each of them is the same, so is the condition.
abbrev pub ConditionsAreDecided : Type 0
ConditionsAreDecided = (c : Cond) → IsCondition c → (f g : Flags)
    → ((flag : Flag) → condition_reads flag c.code ≡ true → flag_value flag f ≡ flag_value flag g)
    → condition c.code f ≡ condition c.code g
