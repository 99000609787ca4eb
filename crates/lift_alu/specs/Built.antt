-- The instructions that are lifted.
use Rattle.std.specs.Prelude.{Bool, true, false}
use Rattle.x64_syntax.specs.declared.instr.Instr.{Instr}
use Rattle.x64_syntax.specs.declared.instr.Instr.TheVariants as instr

-- whether an instruction is lifted: every one but an indirect call or jump
abbrev pub is_lifted : Instr → Bool
is_lifted (instr.Alu o w to from locked) = true
is_lifted (instr.Test w to from) = true
is_lifted (instr.Xchg w to from locked) = true
is_lifted (instr.Mov w to from) = true
is_lifted (instr.Lea w to from) = true
is_lifted (instr.MovZx w v to from) = true
is_lifted (instr.MovSx w v to from) = true
is_lifted (instr.MovSxd to from) = true
is_lifted (instr.Push from) = true
is_lifted (instr.Pop to) = true
is_lifted instr.Leave = true
is_lifted instr.Ret = true
is_lifted (instr.Call d) = true
is_lifted (instr.Jmp d) = true
is_lifted (instr.Jcc c d) = true
is_lifted (instr.SetCc c to) = true
is_lifted (instr.CmovCc c w to from) = true
is_lifted (instr.Inc w to locked) = true
is_lifted (instr.Dec w to locked) = true
is_lifted (instr.Not w to locked) = true
is_lifted (instr.Neg w to) = true
is_lifted (instr.Xadd w to from locked) = true
is_lifted (instr.Cmpxchg w to from locked) = true
is_lifted (instr.Mul w from) = true
is_lifted (instr.ImulOne w from) = true
is_lifted (instr.Div w from) = true
is_lifted (instr.Idiv w from) = true
is_lifted (instr.ImulTwo w to from) = true
is_lifted (instr.ImulThree w to from by) = true
is_lifted (instr.Shift o w to by) = true
is_lifted (instr.Widen w) = true
is_lifted (instr.SignFill w) = true
is_lifted instr.Nop = true
is_lifted instr.Pause = true
is_lifted instr.Endbr = true
is_lifted instr.Mfence = true
is_lifted instr.Ud2 = true
is_lifted i = false
