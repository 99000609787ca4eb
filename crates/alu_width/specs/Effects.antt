-- What an instruction does to each of the four flags: one table, which serves the values here (an undefined flag
-- is 0) and whoever asks which flags are undefined. Intel SDM volume 2, "Flags Affected" of each instruction.
use Rattle.std.specs.Prelude.{ℕ, Bool, true, false, ◌==◌, ◌||◌, nat_lt, nat_le, if◌then◌else◌}
use Rattle.alu_width.specs.declared.flags.Flags.{Flags}
use Rattle.alu_width.specs.declared.operations.Shift.{Shift}
use Rattle.alu_width.specs.declared.operations.Shift.TheVariants.{Shl, Shr, Sar}

-- a flag stays as it was, is set by the result, or is left undefined
pub data Effect : Type 0 where
  Kept : Effect
  Defined : Effect
  Undefined : Effect

-- an effect on each flag
pub record Effects : Type 0 where
  pub cf : Effect
  pub zf : Effect
  pub sf : Effect
  pub of : Effect

-- a row of the table: what becomes of CF, ZF, SF and OF
abbrev pub effects : (carry zero_flag sign overflow : Effect) → Effects
effects carry zero_flag sign overflow = record { cf = carry; zf = zero_flag; sf = sign; of = overflow }

-- ---- the table

-- MOV, LEA, XCHG, NOT, PUSH, SETcc and every other instruction that has no row below
abbrev pub no_effects : Effects
no_effects = effects Kept Kept Kept Kept

-- ADD, ADC, SUB, SBB, CMP, NEG, AND, OR, XOR, TEST, CMPXCHG, XADD
abbrev pub sum_effects : Effects
sum_effects = effects Defined Defined Defined Defined

-- INC, DEC
abbrev pub step_effects : Effects
step_effects = effects Kept Defined Defined Defined

-- MUL, IMUL
abbrev pub product_effects : Effects
product_effects = effects Defined Undefined Undefined Defined

-- DIV, IDIV
abbrev pub quotient_effects : Effects
quotient_effects = effects Undefined Undefined Undefined Undefined

-- whether the carry of a shift is defined at every count
abbrev pub is_sar : Shift → Bool
is_sar Shl = false
is_sar Shr = false
is_sar Sar = true

-- SHL, SHR, SAR of W bits by the masked count n
abbrev pub shift_effects : Shift → (W n : ℕ) → Effects
shift_effects op W n =
    if n == 0 then effects Kept Kept Kept Kept
    else (if n == 1 then effects Defined Defined Defined Defined
    else (if is_sar op || nat_lt n W then effects Defined Defined Defined Undefined
    else effects Undefined Defined Defined Undefined))

-- ROL, ROR by the masked count n
abbrev pub turn_effects : (n : ℕ) → Effects
turn_effects n =
    if n == 0 then effects Kept Kept Kept Kept
    else (if n == 1 then effects Defined Kept Kept Defined
    else effects Defined Kept Kept Undefined)

-- SHL, SHR, SAR of W bits by CL, for whoever does not know what CL holds
abbrev pub shift_by_cl_effects : Shift → (W : ℕ) → Effects
shift_by_cl_effects op W =
    if is_sar op || nat_le 32 W then effects Kept Kept Kept Undefined
    else effects Undefined Kept Kept Undefined

-- ROL, ROR by CL, for whoever does not know what CL holds
abbrev pub turn_by_cl_effects : Effects
turn_by_cl_effects = effects Kept Kept Kept Undefined

-- ---- what the table means for values

-- a flag after the effect, from its value before and the value that the result gives it
abbrev pub settle : Effect → (new old : Bool) → Bool
settle Kept new old = old
settle Defined new old = new
settle Undefined new old = false

-- the flags after the effects
abbrev pub settled : Effects → (new old : Flags) → Flags
settled e new old =
    record { cf = settle e.cf new.cf old.cf; zf = settle e.zf new.zf old.zf; sf = settle e.sf new.sf old.sf; of = settle e.of new.of old.of }

-- ---- what the table means for whoever asks which flags are undefined

-- whether a flag is undefined after the effect, from whether it was before
abbrev pub leaves_undefined : Effect → (was : Bool) → Bool
leaves_undefined Kept was = was
leaves_undefined Defined was = false
leaves_undefined Undefined was = true
