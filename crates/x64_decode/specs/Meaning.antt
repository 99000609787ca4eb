-- The instruction that a row means behind a front, with the bytes after its code.
use Rattle.std.specs.Prelude.{ℕ, Bool, ◌||◌, List}
use Rattle.x64_syntax.specs.declared.instr.Instr.{Instr}
use Rattle.x64_syntax.specs.declared.instr.Instr.TheVariants as instr
use Rattle.x64_syntax.specs.declared.operand.Operand.{Operand}
use Rattle.x64_syntax.specs.declared.operand.Operand.TheVariants as operand
use Rattle.x64_syntax.specs.declared.operand.Width.{Width}
use Rattle.x64_syntax.specs.Operands.{is_in_memory}
use Rattle.x64_decode.specs.declared.row.Front.{Front}
use Rattle.x64_decode.specs.declared.row.Name.{Name}
use Rattle.x64_decode.specs.declared.row.Name.TheVariants as name
use Rattle.x64_decode.specs.declared.row.Row.{Row}
use Rattle.x64_decode.specs.Fronts.{width_of}
use Rattle.x64_decode.specs.Operands.{operand_at}

-- an operand's immediate
abbrev pub immediate_of : Operand → ℕ
immediate_of (operand.Imm n) = n
immediate_of _ = 0

-- the instruction of a name; an exchange with memory is locked also without F0
abbrev pub named : Name → Width → Operand → Operand → Operand → Bool → Instr
named (name.Alu o) w to from by locked = instr.Alu o w to from locked
named name.Test w to from by locked = instr.Test w to from
named name.Xchg w to from by locked = instr.Xchg w to from (locked || is_in_memory to)
named name.Mov w to from by locked = instr.Mov w to from
named name.Lea w to from by locked = instr.Lea w to from
named (name.MovZx v) w to from by locked = instr.MovZx w v to from
named (name.MovSx v) w to from by locked = instr.MovSx w v to from
named name.MovSxd w to from by locked = instr.MovSxd to from
named name.Push w to from by locked = instr.Push to
named name.Pop w to from by locked = instr.Pop to
named name.Leave w to from by locked = instr.Leave
named name.Ret w to from by locked = instr.Ret
named name.Call w to from by locked = instr.Call (immediate_of to)
named name.Jmp w to from by locked = instr.Jmp (immediate_of to)
named name.CallInd w to from by locked = instr.CallInd to
named name.JmpInd w to from by locked = instr.JmpInd to
named (name.Jcc c) w to from by locked = instr.Jcc (record { code = c }) (immediate_of to)
named (name.SetCc c) w to from by locked = instr.SetCc (record { code = c }) to
named (name.CmovCc c) w to from by locked = instr.CmovCc (record { code = c }) w to from
named name.Inc w to from by locked = instr.Inc w to locked
named name.Dec w to from by locked = instr.Dec w to locked
named name.Not w to from by locked = instr.Not w to locked
named name.Neg w to from by locked = instr.Neg w to
named name.Mul w to from by locked = instr.Mul w to
named name.ImulOne w to from by locked = instr.ImulOne w to
named name.Div w to from by locked = instr.Div w to
named name.Idiv w to from by locked = instr.Idiv w to
named name.ImulTwo w to from by locked = instr.ImulTwo w to from
named name.ImulThree w to from by locked = instr.ImulThree w to from by
named (name.Shift o) w to from by locked = instr.Shift o w to from
named name.Widen w to from by locked = instr.Widen w
named name.SignFill w to from by locked = instr.SignFill w
named name.Cmpxchg w to from by locked = instr.Cmpxchg w to from locked
named name.Xadd w to from by locked = instr.Xadd w to from locked
named name.Nop w to from by locked = instr.Nop
named name.Pause w to from by locked = instr.Pause
named name.Endbr w to from by locked = instr.Endbr
named name.Mfence w to from by locked = instr.Mfence
named name.Ud2 w to from by locked = instr.Ud2

-- what a row means behind a front; `rest` is what stands after its code
unfoldable pub meaning : Front → Row → List ℕ → Instr
meaning f r rest =
    named r.name (width_of f r.size)
    (operand_at f r rest r.to) (operand_at f r rest r.from) (operand_at f r rest r.by) f.lock
