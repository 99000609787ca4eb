-- The instructions of which jumps through tables are made, and where they stand.
use Rattle.std.specs.Prelude.{◌≡◌, ℕ, ◌+◌, ℤ, Bool, true, false, Option, Some, None}
use Rattle.x64_syntax.specs.declared.instr.AluOp.TheVariants as op
use Rattle.x64_syntax.specs.declared.instr.Instr.{Instr}
use Rattle.x64_syntax.specs.declared.instr.Instr.TheVariants as instr
use Rattle.x64_syntax.specs.declared.operand.Mem.{Mem}
use Rattle.x64_syntax.specs.declared.operand.Operand.{Operand}
use Rattle.x64_syntax.specs.declared.operand.Operand.TheVariants as operand
use Rattle.x64_syntax.specs.declared.operand.Width.{Width}
use Rattle.x64_syntax.specs.declared.operand.Width.TheVariants as width
use Rattle.x64_syntax.specs.declared.placed.Placed.{Placed}
use Rattle.code_at.specs.Code.{Program, StandsAt}

-- the instruction stands at the address, and ends at `end`
pub record Stands (program : Program) (address : ℕ) (i : Instr) (end : ℕ) : Type 0 where
  pub placed : Placed
  pub stands : StandsAt program address placed
  pub is : placed.instr ≡ i
  pub ends : address + placed.length ≡ end

-- a register, or its low part, as an operand
abbrev pub register : ℕ → Operand
register number = operand.Reg (record { number = number; high = false })

-- cmp q, N
abbrev pub compare : Width → (q n : ℕ) → Instr
compare w q n = instr.Alu op.Cmp w (register q) (operand.Imm n) false

-- ja: the jump where the comparison found more
abbrev pub above : (displacement : ℕ) → Instr
above displacement = instr.Jcc (record { code = 7 }) displacement

-- the instruction is ja
abbrev pub IsAbove : Instr → Type 0
IsAbove i = (displacement : ℕ) × (i ≡ above displacement)

-- r gets q, which has this width, extended by zeros: mov r, q in 32 bits, or movzx r, q to 32 bits
abbrev pub copy : Width → (r q : ℕ) → Instr
copy width.Long r q = instr.Mov width.Long (register r) (register q)
copy w r q = instr.MovZx width.Long w (register r) (register q)

-- [r*8+offset]
abbrev pub entry_operand : (r : ℕ) (offset : ℤ) → Mem
entry_operand r offset = record { base = None; index = Some r; scale = 8; offset = offset; rip = false }

-- jmp [r*8+offset]
abbrev pub jump_through : (r : ℕ) (offset : ℤ) → Instr
jump_through r offset = instr.JmpInd (operand.Mem (entry_operand r offset))

-- the 32-bit destination of a MOV, MOVZX, MOVSX, LEA, ADD, SUB or AND
abbrev pub long_destination : Instr → Option Operand
long_destination (instr.Mov width.Long to from) = Some to
long_destination (instr.MovZx width.Long w to from) = Some to
long_destination (instr.MovSx width.Long w to from) = Some to
long_destination (instr.Lea width.Long to from) = Some to
long_destination (instr.Alu op.Add width.Long to from locked) = Some to
long_destination (instr.Alu op.Sub width.Long to from locked) = Some to
long_destination (instr.Alu op.And width.Long to from locked) = Some to
long_destination _ = None

-- the instruction, one of these, has the 32-bit destination r
abbrev pub Sets : (r : ℕ) → Instr → Type 0
Sets r i = long_destination i ≡ Some (register r)

-- control goes on behind the instruction: it is of a kind of which patterns are made, and not their last
abbrev pub goes_on : Instr → Bool
goes_on (instr.Alu o w to from locked) = true
goes_on (instr.Mov w to from) = true
goes_on (instr.MovZx w v to from) = true
goes_on (instr.MovSx w v to from) = true
goes_on (instr.Lea w to from) = true
goes_on (instr.Jcc condition displacement) = true
goes_on _ = false
