-- What instructions compute at a width, and the flags that they leave, by the table of effects (Intel SDM, volume 2, the pages of
-- the instructions). A flag that the table leaves undefined is 0.
use Rattle.std.specs.Prelude.{ℕ, ◌-◌, false, if◌then◌else◌}
use Rattle.word_arith.specs.Bits.{bit, top_bit}
use Rattle.word_arith.specs.Masks.{ones}
use Rattle.alu_width.specs.declared.flags.Flags.{Flags}
use Rattle.alu_width.specs.declared.flags.Outcome.{Outcome}
use Rattle.alu_width.specs.declared.operations.Logic.TheVariants as logic
use Rattle.alu_width.specs.declared.operations.Rotate.TheVariants as rotate
use Rattle.alu_width.specs.declared.operations.Shift.TheVariants as shift
use Rattle.alu_width.specs.declared.operations.Product.{Product}
use Rattle.alu_width.specs.Sums.{outcome, sum_outcome, difference_outcome, logic_value}
use Rattle.alu_width.specs.Shifts.{shift_outcome}
use Rattle.alu_width.specs.Turns.{rotate_outcome}
use Rattle.alu_width.specs.Effects.{settled, step_effects, product_effects, quotient_effects}
use Rattle.x64_syntax.specs.declared.instr.AluOp.{AluOp}
use Rattle.x64_syntax.specs.declared.instr.AluOp.TheVariants as op
use Rattle.x64_syntax.specs.declared.instr.ShiftOp.{ShiftOp}
use Rattle.x64_syntax.specs.declared.instr.ShiftOp.TheVariants as turn

-- the eight operations on a destination a and a source b; ADC and SBB take CF in
unfoldable pub alu_outcome : AluOp → (W a b : ℕ) → Flags → Outcome
alu_outcome op.Add W a b f = sum_outcome W a b 0
alu_outcome op.Or W a b f = outcome W (logic_value logic.Or a b) false false
alu_outcome op.Adc W a b f = sum_outcome W a b (bit f.cf)
alu_outcome op.Sbb W a b f = difference_outcome W a b (bit f.cf)
alu_outcome op.And W a b f = outcome W (logic_value logic.And a b) false false
alu_outcome op.Sub W a b f = difference_outcome W a b 0
alu_outcome op.Xor W a b f = outcome W (logic_value logic.Xor a b) false false
alu_outcome op.Cmp W a b f = difference_outcome W a b 0

-- INC and DEC are ADD and SUB of 1, and keep CF
unfoldable pub inc_outcome : (W a : ℕ) → Flags → Outcome
inc_outcome W a f = record (sum_outcome W a 1 0) { flags = settled step_effects (sum_outcome W a 1 0).flags f }

unfoldable pub dec_outcome : (W a : ℕ) → Flags → Outcome
dec_outcome W a f = record (difference_outcome W a 1 0) { flags = settled step_effects (difference_outcome W a 1 0).flags f }

-- NEG is 0 minus the operand
abbrev pub neg_outcome : (W a : ℕ) → Outcome
neg_outcome W a = difference_outcome W 0 a 0

-- NOT turns each of the W bits round
abbrev pub not_value : (W a : ℕ) → ℕ
not_value W a = ones W - a

-- shifts and rotates of a by a count
unfoldable pub turn_outcome : ShiftOp → (W a count : ℕ) → Flags → Outcome
turn_outcome turn.Rol W a count f = rotate_outcome rotate.Rol W a count f
turn_outcome turn.Ror W a count f = rotate_outcome rotate.Ror W a count f
turn_outcome turn.Shl W a count f = shift_outcome shift.Shl W a count f
turn_outcome turn.Shr W a count f = shift_outcome shift.Shr W a count f
turn_outcome turn.Sar W a count f = shift_outcome shift.Sar W a count f

-- the flags after MUL and IMUL: CF and OF say that the double product is more than its low half
unfoldable pub product_flags : Product → Flags → Flags
product_flags p f = settled product_effects (record { cf = p.over; zf = false; sf = false; of = p.over }) f

-- the flags after DIV and IDIV
unfoldable pub quotient_flags : Flags → Flags
quotient_flags f = settled quotient_effects f f

-- W bits that are all the top bit of a
unfoldable pub filled : (W a : ℕ) → ℕ
filled W a = if top_bit W a then ones W else 0
