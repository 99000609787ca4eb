-- The formulas of operands: what a register holds at a width, what becomes of it, and the address of memory.
use Rattle.std.specs.Prelude.{ℕ, ◌==◌, pos, ◌+ℤ◌, Bool, true, false, Option, Some, None, if◌then◌else◌}
use Rattle.word_arith.specs.Masks.{zeros_at}
use Rattle.word_arith.specs.Signed.{low_bits}
use Rattle.x64_syntax.specs.declared.operand.Mem.{Mem}
use Rattle.x64_syntax.specs.declared.operand.Reg.{Reg}
use Rattle.x64_syntax.specs.declared.operand.Width.{Width}
use Rattle.x64_syntax.specs.declared.operand.Width.TheVariants as width
use Rattle.x64_table.specs.State.{bytes}
use Rattle.limm_ir.specs.declared.step.IrOp.TheVariants as ops
use Rattle.lift_alu.specs.Formulas.{Formula, Number, Register, Operation}

-- the low bits of a value, as many as a width has
unfoldable pub clean : Width → Formula → Formula
clean width.Quad e = e
clean w e = Operation ops.ZeroExt e (Number (bytes w))

-- the low bits of a value, as 64 bits with their sign
unfoldable pub with_sign : Width → Formula → Formula
with_sign width.Quad e = e
with_sign w e = Operation ops.SignExt e (Number (bytes w))

-- a register from its second byte on, for AH, CH, DH and BH
abbrev pub shifted_down : (high : Bool) → Formula → Formula
shifted_down true e = Operation ops.Shr e (Number 8)
shifted_down false e = e

-- what a register holds at a width
unfoldable pub register_formula : Width → Reg → Formula
register_formula w r = clean w (shifted_down r.high (Register r.number))

-- a byte of a register, the lowest or the second
abbrev pub byte_into : (high : Bool) → (old e : Formula) → Formula
byte_into true old e = Operation ops.Or (Operation ops.And old (Number (zeros_at 64 8 8))) (Operation ops.Shl e (Number 8))
byte_into false old e = Operation ops.Or (Operation ops.And old (Number (zeros_at 64 0 8))) e

-- A 64-bit register of which a part gets a value of that width: 32 bits clear the upper half, and 8 or 16 bits keep the rest.
unfoldable pub merged_formula : Width → (high : Bool) → (old e : Formula) → Formula
merged_formula width.Byte high old e = byte_into high old e
merged_formula width.Word high old e = Operation ops.Or (Operation ops.And old (Number (zeros_at 64 0 16))) e
merged_formula width.Long high old e = e
merged_formula width.Quad high old e = e

-- ---- addresses

-- the shift that a scale of 1, 2, 4 or 8 is
abbrev pub shift_of : (scale : ℕ) → ℕ
shift_of scale = if scale == 2 then 1 else (if scale == 4 then 2 else 3)

-- an index times its scale
unfoldable pub scaled : (index scale : ℕ) → Formula
scaled index scale = if scale == 1 then Register index else Operation ops.Shl (Register index) (Number (shift_of scale))

-- a sum with a part that there may be
abbrev pub plus : Option Formula → Formula → Formula
plus None e = e
plus (Some before) e = Operation ops.Add before e

-- base and index of memory, where there are any
abbrev pub base_part : Option ℕ → Option Formula
base_part None = None
base_part (Some number) = Some (Register number)

abbrev pub with_index : Option ℕ → (scale : ℕ) → Option Formula → Option Formula
with_index None scale before = before
with_index (Some number) scale before = Some (plus before (scaled number scale))

-- what is added to base and index: the offset, from the address after the instruction where it is relative
unfoldable pub displacement : Mem → (after : ℕ) → ℕ
displacement m after = low_bits 64 (pos (if m.rip then after else 0) +ℤ m.offset)

abbrev pub with_displacement : (d : ℕ) → Option Formula → Formula
with_displacement d None = Number d
with_displacement d (Some e) = if d == 0 then e else Operation ops.Add e (Number d)

-- the address of memory, in an instruction behind which this address stands
unfoldable pub address_formula : Mem → (after : ℕ) → Formula
address_formula m after = with_displacement (displacement m after) (with_index m.index m.scale (base_part m.base))
