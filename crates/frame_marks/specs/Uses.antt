-- How instructions use rsp and rbp, and which uses keep a function's frame to itself.
use Rattle.std.specs.Prelude.{Bool, true, false, not, ◌&&◌, ◌||◌}
use Rattle.std.specs.List.{list_any}
use Rattle.x64_syntax.specs.declared.instr.AluOp.TheVariants as op
use Rattle.x64_syntax.specs.declared.instr.Instr.{Instr}
use Rattle.x64_syntax.specs.declared.instr.Instr.TheVariants as instr
use Rattle.x64_syntax.specs.declared.instr_slots.InstrSlot.{InstrSlot}
use Rattle.x64_syntax.specs.declared.instr_slots.SlotPlace.{SlotPlace}
use Rattle.x64_syntax.specs.declared.instr_slots.SlotPlace.TheVariants as place
use Rattle.x64_syntax.specs.declared.operand.Operand.{Operand}
use Rattle.x64_syntax.specs.declared.operand.Width.TheVariants as width
use Rattle.x64_syntax.specs.declared.placed.Flow.{Flow}
use Rattle.x64_syntax.specs.Slots.{slots}
use Rattle.frame_marks.specs.Operands.{rsp, rbp, names, is_register, is_number, is_memory_beside, operands, written}

-- A use of a register is an operand that names it. Beside its operands PUSH, POP, CALL, RET, a jump to a listed function
-- and LEAVE use rsp, and LEAVE uses rbp. These uses are listed too, so that they never expose a frame, but for LEAVE in
-- a function without a frame pointer.

-- ---- the listed uses

-- whether an access is at a memory operand, and not on the stack without being named
abbrev pub is_named : SlotPlace → Bool
is_named (place.Operand m) = true
is_named place.Stack = false

abbrev pub is_at_operand : InstrSlot → Bool
is_at_operand access = is_named access.place

-- whether an instruction accesses its memory operand, as LEA does not
abbrev pub accesses_operand : Instr → Flow → Bool
accesses_operand i f = list_any is_at_operand (slots i f)

-- the address of a frame access: at rsp and an offset, and, with a frame pointer, at rbp and an offset
abbrev pub addresses_frame : (framed : Bool) → Instr → Flow → Operand → Bool
addresses_frame framed i f o = accesses_operand i f && (is_memory_beside rsp o || (framed && is_memory_beside rbp o))

-- add rsp, number; sub rsp, number; pop rbp
abbrev pub keeps_frame : Instr → Bool
keeps_frame (instr.Alu op.Add width.Quad to from locked) = is_register rsp to && is_number from
keeps_frame (instr.Alu op.Sub width.Quad to from locked) = is_register rsp to && is_number from
keeps_frame (instr.Pop to) = is_register rbp to
keeps_frame i = false

-- mov rsp, rbp; lea rsp, [rbp+c]
abbrev pub returns_to_frame : Instr → Bool
returns_to_frame (instr.Mov width.Quad to from) = is_register rsp to && is_register rbp from
returns_to_frame (instr.Lea width.Quad to from) = is_register rsp to && is_memory_beside rbp from
returns_to_frame i = false

-- whether an instruction's use of rsp or rbp by an operand is listed, in a function with a frame pointer or without one
abbrev pub is_listed : (framed : Bool) → Instr → Flow → Operand → Bool
is_listed framed i f o = addresses_frame framed i f o || (keeps_frame i || (framed && returns_to_frame i))

-- ---- the others

abbrev pub is_leave : Instr → Bool
is_leave instr.Leave = true
is_leave i = false

-- whether an operand of the instruction uses rsp, in a function without a frame pointer, in a way that is not listed
abbrev pub is_loose : Instr → Flow → Operand → Bool
is_loose i f o = names rsp o && not (is_listed false i f o)

-- whether it uses rsp or rbp, in a function with a frame pointer, in a way that is not listed
abbrev pub is_loose_framed : Instr → Flow → Operand → Bool
is_loose_framed i f o = (names rsp o || names rbp o) && not (is_listed true i f o)

-- what exposes the frame of a function without a frame pointer: a use of rsp that is not listed, and LEAVE
abbrev pub exposes : Instr → Flow → Bool
exposes i f = is_leave i || list_any (is_loose i f) (operands i)

-- what exposes the frame of a function with a frame pointer, but for its own first PUSH RBP and MOV RBP, RSP
abbrev pub exposes_framed : Instr → Flow → Bool
exposes_framed i f = list_any (is_loose_framed i f) (operands i)

-- ---- the frame pointer

-- push rbp
abbrev pub saves_pointer : Instr → Bool
saves_pointer (instr.Push from) = is_register rbp from
saves_pointer i = false

-- mov rbp, rsp
abbrev pub sets_pointer : Instr → Bool
sets_pointer (instr.Mov width.Quad to from) = is_register rbp to && is_register rsp from
sets_pointer i = false

abbrev pub is_endbr : Instr → Bool
is_endbr instr.Endbr = true
is_endbr i = false

abbrev pub is_pop : Instr → Bool
is_pop (instr.Pop to) = true
is_pop i = false

-- whether an instruction changes rbp otherwise than by LEAVE or POP RBP
abbrev pub changes_pointer : Instr → Bool
changes_pointer i = not (is_pop i) && list_any (is_register rbp) (written i)
