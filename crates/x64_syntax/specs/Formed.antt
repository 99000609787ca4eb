-- What an instruction's operands can be: each instruction that bytes spell is formed so.
use Rattle.std.specs.Prelude.{◌≡◌, ◌≢◌, ◌⊎◌, ◌<◌, ◌^◌, ℕ, Bool, true, false, None, IfSome, IsSome, pos, neg_ℤ, ◌≤ℤ◌, ◌<ℤ◌}
use Rattle.x64_syntax.specs.declared.instr.AluOp.TheVariants as op
use Rattle.x64_syntax.specs.declared.instr.Instr.{Instr}
use Rattle.x64_syntax.specs.declared.instr.Instr.TheVariants as instr
use Rattle.x64_syntax.specs.declared.placed.Flow.{Flow}
use Rattle.x64_syntax.specs.declared.placed.Flow.TheVariants as flow
use Rattle.x64_syntax.specs.declared.operand.Cond.{Cond}
use Rattle.x64_syntax.specs.declared.operand.Mem.{Mem}
use Rattle.x64_syntax.specs.declared.operand.Operand.{Operand}
use Rattle.x64_syntax.specs.declared.operand.Operand.TheVariants as operand
use Rattle.x64_syntax.specs.declared.operand.Reg.{Reg}
use Rattle.x64_syntax.specs.declared.operand.Width.{Width}
use Rattle.x64_syntax.specs.declared.operand.Width.TheVariants as width
use Rattle.x64_syntax.specs.Operands.{bits, is_in_memory}

-- a register of a width: the high bytes are those of the registers 0 to 3
pub record IsRegister (w : Width) (r : Reg) : Type 0 where
  pub number : r.number < 16
  pub high : r.high ≡ true → (w ≡ width.Byte) × (r.number < 4)

-- Memory: rsp is no index, the scale is 1, 2, 4 or 8, and 1 without an index; relative memory has neither base nor index. The
-- offset has 32 bits, with sign.
pub record IsMemory (m : Mem) : Type 0 where
  pub base : IfSome m.base (λ n. n < 16)
  pub index : IfSome m.index (λ n. (n < 16) × (n ≢ 4))
  pub scale : (k : ℕ) × (k < 4) × (m.scale ≡ 2 ^ k)
  pub unscaled : m.index ≡ None → m.scale ≡ 1
  pub relative : m.rip ≡ true → (m.base ≡ None) × (m.index ≡ None)
  pub offset : (neg_ℤ (pos (2 ^ 31)) ≤ℤ m.offset) × (m.offset <ℤ pos (2 ^ 31))

-- an operand that is a register
abbrev pub IsInRegister : Width → Operand → Type 0
IsInRegister w (operand.Reg r) = IsRegister w r
IsInRegister w _ = ⊥

-- an operand that is memory
abbrev pub IsInMemory : Operand → Type 0
IsInMemory (operand.Mem m) = IsMemory m
IsInMemory _ = ⊥

-- an operand that is a register or memory
abbrev pub IsStored : Width → Operand → Type 0
IsStored w (operand.Reg r) = IsRegister w r
IsStored w (operand.Mem m) = IsMemory m
IsStored w (operand.Imm n) = ⊥

-- an operand that is a number of a width
abbrev pub IsNumber : Width → Operand → Type 0
IsNumber w (operand.Imm n) = n < 2 ^ bits w
IsNumber w _ = ⊥

-- the count of a shift: a number of 8 bits, or the register CL
abbrev pub IsCount : Operand → Type 0
IsCount (operand.Imm n) = n < 256
IsCount (operand.Reg r) = (r.number ≡ 1) × (r.high ≡ false)
IsCount (operand.Mem m) = ⊥

-- a destination and a source, of which at most one is memory
abbrev pub ArePair : Width → Operand → Operand → Type 0
ArePair w to from =
    (IsStored w to × IsInRegister w from)
    ⊎ ((IsInRegister w to × IsStored w from) ⊎ (IsStored w to × IsNumber w from))

-- a width of 8 or 16 bits
abbrev pub IsNarrow : Width → Type 0
IsNarrow w = (w ≡ width.Byte) ⊎ (w ≡ width.Word)

-- what is locked is memory
abbrev pub LocksMemory : Bool → Operand → Type 0
LocksMemory locked to = locked ≡ true → is_in_memory to ≡ true

-- a condition: not on the parity flag
abbrev pub IsCondition : Cond → Type 0
IsCondition c = (c.code < 16) × ((c.code ≢ 10) × (c.code ≢ 11))

-- the instruction is one that bytes can spell, as far as its operands tell
abbrev pub IsFormed : Instr → Type 0
IsFormed (instr.Alu o w to from locked) = ArePair w to from × (LocksMemory locked to × (locked ≡ true → o ≢ op.Cmp))
IsFormed (instr.Test w to from) = ArePair w to from
IsFormed (instr.Xchg w to from locked) = IsStored w to × (IsInRegister w from × (locked ≡ is_in_memory to))
IsFormed (instr.Mov w to from) = ArePair w to from
IsFormed (instr.Lea w to from) = (w ≢ width.Byte) × (IsInRegister w to × IsInMemory from)
IsFormed (instr.MovZx w v to from) = (w ≢ width.Byte) × (IsNarrow v × (IsInRegister w to × IsStored v from))
IsFormed (instr.MovSx w v to from) = (w ≢ width.Byte) × (IsNarrow v × (IsInRegister w to × IsStored v from))
IsFormed (instr.MovSxd to from) = IsInRegister width.Quad to × IsStored width.Long from
IsFormed (instr.Push from) = IsStored width.Quad from ⊎ IsNumber width.Quad from
IsFormed (instr.Pop to) = IsStored width.Quad to
IsFormed instr.Leave = Unit {0}
IsFormed instr.Ret = Unit {0}
IsFormed (instr.Call d) = d < 2 ^ 64
IsFormed (instr.Jmp d) = d < 2 ^ 64
IsFormed (instr.CallInd to) = IsStored width.Quad to
IsFormed (instr.JmpInd to) = IsStored width.Quad to
IsFormed (instr.Jcc c d) = IsCondition c × (d < 2 ^ 64)
IsFormed (instr.SetCc c to) = IsCondition c × IsStored width.Byte to
IsFormed (instr.CmovCc c w to from) = IsCondition c × ((w ≢ width.Byte) × (IsInRegister w to × IsStored w from))
IsFormed (instr.Inc w to locked) = IsStored w to × LocksMemory locked to
IsFormed (instr.Dec w to locked) = IsStored w to × LocksMemory locked to
IsFormed (instr.Not w to locked) = IsStored w to × LocksMemory locked to
IsFormed (instr.Neg w to) = IsStored w to
IsFormed (instr.Mul w from) = IsStored w from
IsFormed (instr.ImulOne w from) = IsStored w from
IsFormed (instr.Div w from) = (w ≢ width.Quad) × IsStored w from
IsFormed (instr.Idiv w from) = (w ≢ width.Quad) × IsStored w from
IsFormed (instr.ImulTwo w to from) = (w ≢ width.Byte) × (IsInRegister w to × IsStored w from)
IsFormed (instr.ImulThree w to from by) = (w ≢ width.Byte) × (IsInRegister w to × (IsStored w from × IsNumber w by))
IsFormed (instr.Shift o w to by) = IsStored w to × IsCount by
IsFormed (instr.Widen w) = w ≢ width.Byte
IsFormed (instr.SignFill w) = w ≢ width.Byte
IsFormed (instr.Cmpxchg w to from locked) = IsInMemory to × (IsInRegister w from × (locked ≡ true))
IsFormed (instr.Xadd w to from locked) = IsStored w to × (IsInRegister w from × (locked ≡ is_in_memory to))
IsFormed instr.Nop = Unit {0}
IsFormed instr.Pause = Unit {0}
IsFormed instr.Endbr = Unit {0}
IsFormed instr.Mfence = Unit {0}
IsFormed instr.Ud2 = Unit {0}

-- memory that an index alone chooses, by eights from an address on: an entry of a table of addresses
abbrev pub IsTableEntry : Operand → Type 0
IsTableEntry (operand.Mem m) = (m.base ≡ None) × (IsSome m.index × ((m.scale ≡ 8) × (m.rip ≡ false)))
IsTableEntry _ = ⊥

-- a flow that an instruction can have: listed functions are called or jumped to directly, and a table is jumped through
abbrev pub IsFlowOf : Instr → Flow → Type 0
IsFlowOf i flow.Plain = Unit {0}
IsFlowOf (instr.Call d) flow.ListedIn = Unit {0}
IsFlowOf (instr.Call d) flow.ListedOut = Unit {0}
IsFlowOf (instr.Jmp d) flow.ListedIn = Unit {0}
IsFlowOf (instr.Jmp d) flow.ListedOut = Unit {0}
IsFlowOf (instr.JmpInd to) flow.TableJump = IsTableEntry to
IsFlowOf i f = ⊥
