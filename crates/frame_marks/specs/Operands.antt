-- The operands of an instruction, and which registers they name.
use Rattle.std.specs.Prelude.{ℕ, ◌==◌, Bool, true, false, ◌&&◌, ◌||◌, List, [], ◌∷◌, Option, Some, None}
use Rattle.x64_syntax.specs.declared.instr.AluOp.{AluOp}
use Rattle.x64_syntax.specs.declared.instr.AluOp.TheVariants as op
use Rattle.x64_syntax.specs.declared.instr.Instr.{Instr}
use Rattle.x64_syntax.specs.declared.instr.Instr.TheVariants as instr
use Rattle.x64_syntax.specs.declared.operand.Mem.{Mem}
use Rattle.x64_syntax.specs.declared.operand.Operand.{Operand}
use Rattle.x64_syntax.specs.declared.operand.Operand.TheVariants as operand
use Rattle.frame_marks.specs.declared.operands.Operands.{Operands}
use Rattle.frame_marks.specs.declared.operands.Operands.TheVariants as some

-- ---- registers

-- the stack pointer and the frame pointer, by their numbers
abbrev pub rsp : ℕ
rsp = 4

abbrev pub rbp : ℕ
rbp = 5

-- whether the base or the index of memory is this register
abbrev pub is_part : ℕ → Option ℕ → Bool
is_part register None = false
is_part register (Some number) = number == register

-- whether an operand names a register: as a register, at any width, or as the base or the index of memory
abbrev pub names : ℕ → Operand → Bool
names register (operand.Reg r) = r.number == register
names register (operand.Mem m) = is_part register m.base || is_part register m.index
names register (operand.Imm n) = false

-- whether an operand is a register, or a part of it
abbrev pub is_register : ℕ → Operand → Bool
is_register register (operand.Reg r) = r.number == register
is_register register o = false

-- whether an operand is a number
abbrev pub is_number : Operand → Bool
is_number (operand.Imm n) = true
is_number o = false

-- whether there is none
abbrev pub is_absent : Option ℕ → Bool
is_absent None = true
is_absent (Some number) = false

-- whether memory is at a register and an offset, without an index
abbrev pub is_beside : ℕ → Mem → Bool
is_beside register m = is_part register m.base && is_absent m.index

-- whether an operand is such memory
abbrev pub is_memory_beside : ℕ → Operand → Bool
is_memory_beside register (operand.Mem m) = is_beside register m
is_memory_beside register o = false

-- ---- operands

-- the operands of an instruction, in the order of its manual page; that of NOP is not kept
abbrev pub operands : Instr → List Operand
operands (instr.Alu o w to from locked) = to ∷ from ∷ []
operands (instr.Test w to from) = to ∷ from ∷ []
operands (instr.Xchg w to from locked) = to ∷ from ∷ []
operands (instr.Mov w to from) = to ∷ from ∷ []
operands (instr.Lea w to from) = to ∷ from ∷ []
operands (instr.MovZx w v to from) = to ∷ from ∷ []
operands (instr.MovSx w v to from) = to ∷ from ∷ []
operands (instr.MovSxd to from) = to ∷ from ∷ []
operands (instr.Push from) = from ∷ []
operands (instr.Pop to) = to ∷ []
operands (instr.CallInd to) = to ∷ []
operands (instr.JmpInd to) = to ∷ []
operands (instr.SetCc c to) = to ∷ []
operands (instr.CmovCc c w to from) = to ∷ from ∷ []
operands (instr.Inc w to locked) = to ∷ []
operands (instr.Dec w to locked) = to ∷ []
operands (instr.Not w to locked) = to ∷ []
operands (instr.Neg w to) = to ∷ []
operands (instr.Mul w from) = from ∷ []
operands (instr.ImulOne w from) = from ∷ []
operands (instr.Div w from) = from ∷ []
operands (instr.Idiv w from) = from ∷ []
operands (instr.ImulTwo w to from) = to ∷ from ∷ []
operands (instr.ImulThree w to from by) = to ∷ from ∷ by ∷ []
operands (instr.Shift o w to by) = to ∷ by ∷ []
operands (instr.Cmpxchg w to from locked) = to ∷ from ∷ []
operands (instr.Xadd w to from locked) = to ∷ from ∷ []
operands i = []

-- what CMP and the other operations write of their operands
abbrev pub alu_written : AluOp → Operand → List Operand
alu_written op.Cmp to = []
alu_written o to = to ∷ []

-- Those of its operands that an instruction writes. Beside them instructions write rax, rdx, rsp and, by LEAVE, rbp.
abbrev pub written : Instr → List Operand
written (instr.Alu o w to from locked) = alu_written o to
written (instr.Xchg w to from locked) = to ∷ from ∷ []
written (instr.Mov w to from) = to ∷ []
written (instr.Lea w to from) = to ∷ []
written (instr.MovZx w v to from) = to ∷ []
written (instr.MovSx w v to from) = to ∷ []
written (instr.MovSxd to from) = to ∷ []
written (instr.Pop to) = to ∷ []
written (instr.SetCc c to) = to ∷ []
written (instr.CmovCc c w to from) = to ∷ []
written (instr.Inc w to locked) = to ∷ []
written (instr.Dec w to locked) = to ∷ []
written (instr.Not w to locked) = to ∷ []
written (instr.Neg w to) = to ∷ []
written (instr.ImulTwo w to from) = to ∷ []
written (instr.ImulThree w to from by) = to ∷ []
written (instr.Shift o w to by) = to ∷ []
written (instr.Cmpxchg w to from locked) = to ∷ []
written (instr.Xadd w to from locked) = to ∷ from ∷ []
written i = []

-- the operands that a value of the call's answer lists
abbrev pub told : Operands → List Operand
told some.Empty = []
told (some.One a) = a ∷ []
told (some.Two a b) = a ∷ b ∷ []
told (some.Three a b c) = a ∷ b ∷ c ∷ []
