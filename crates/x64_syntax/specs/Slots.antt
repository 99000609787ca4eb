-- The accesses that an instruction makes. At most one operand of an instruction is memory.
use Rattle.std.specs.Prelude.{◌≡◌, Bool, false, List, [], ◌∷◌, map, if◌then◌else◌}
use Rattle.x64_syntax.specs.declared.instr.AluOp.{AluOp}
use Rattle.x64_syntax.specs.declared.instr.AluOp.TheVariants as op
use Rattle.x64_syntax.specs.declared.placed.Flow.{Flow}
use Rattle.x64_syntax.specs.declared.placed.Flow.TheVariants as flow
use Rattle.x64_syntax.specs.declared.instr.Instr.{Instr}
use Rattle.x64_syntax.specs.declared.instr.Instr.TheVariants as instr
use Rattle.x64_syntax.specs.declared.instr_slots.InstrSlot.{InstrSlot}
use Rattle.x64_syntax.specs.declared.instr_slots.InstrSlots.{InstrSlots}
use Rattle.x64_syntax.specs.declared.instr_slots.InstrSlots.TheVariants as some
use Rattle.x64_syntax.specs.declared.operand.Operand.{Operand}
use Rattle.x64_syntax.specs.declared.operand.Operand.TheVariants as operand
use Rattle.x64_syntax.specs.declared.placed.Placed.{Placed}
use Rattle.x64_syntax.specs.declared.slots.Slot.{Slot}
use Rattle.x64_syntax.specs.declared.slots.SlotKind.{SlotKind}
use Rattle.x64_syntax.specs.declared.slots.SlotKind.TheVariants as kind
use Rattle.x64_syntax.specs.declared.instr_slots.SlotPlace.{SlotPlace}
use Rattle.x64_syntax.specs.declared.instr_slots.SlotPlace.TheVariants as place

-- an access of a kind at a place
abbrev pub slot : SlotKind → SlotPlace → InstrSlot
slot k p = record { kind = k; place = p }

-- what reading an operand accesses
abbrev pub read_slots : Operand → List InstrSlot
read_slots (operand.Mem m) = slot kind.Read (place.Operand m) ∷ []
read_slots _ = []

-- what writing an operand accesses
abbrev pub write_slots : Operand → List InstrSlot
write_slots (operand.Mem m) = slot kind.Write (place.Operand m) ∷ []
write_slots _ = []

-- what changing an operand accesses: it is read and then written, or both at once where that is locked
abbrev pub change_slots : Bool → Operand → List InstrSlot
change_slots locked (operand.Mem m) =
    if locked then slot kind.Locked (place.Operand m) ∷ []
    else slot kind.Read (place.Operand m) ∷ slot kind.Write (place.Operand m) ∷ []
change_slots locked _ = []

-- where the destination is read only: that, or else the source
abbrev pub compare_slots : Operand → Operand → List InstrSlot
compare_slots (operand.Mem m) from = read_slots (operand.Mem m)
compare_slots to from = read_slots from

-- where the destination is written only: that, or else the source's read
abbrev pub move_slots : Operand → Operand → List InstrSlot
move_slots (operand.Mem m) from = write_slots (operand.Mem m)
move_slots to from = read_slots from

-- where the destination is read and written: that, or else the source's read
abbrev pub combine_slots : Bool → Operand → Operand → List InstrSlot
combine_slots locked (operand.Mem m) from = change_slots locked (operand.Mem m)
combine_slots locked to from = read_slots from

-- CMP writes nothing; the other operations change their destination
abbrev pub alu_slots : AluOp → Bool → Operand → Operand → List InstrSlot
alu_slots op.Cmp locked to from = compare_slots to from
alu_slots _ locked to from = combine_slots locked to from

-- the eight bytes that are pushed, and those that are popped
abbrev pub pushed : InstrSlot
pushed = slot kind.Write place.Stack

abbrev pub popped : InstrSlot
popped = slot kind.Read place.Stack

-- a jump to a listed function returns by itself
abbrev pub jump_slots : Flow → List InstrSlot
jump_slots flow.ListedIn = popped ∷ []
jump_slots flow.ListedOut = popped ∷ []
jump_slots _ = []

-- a jump through a table, which can't be written, makes no access
abbrev pub indirect_slots : Flow → Operand → List InstrSlot
indirect_slots flow.TableJump to = []
indirect_slots _ to = read_slots to

-- a push reads its operand and writes the stack
abbrev pub push_slots : Operand → List InstrSlot
push_slots (operand.Mem m) = slot kind.Read (place.Operand m) ∷ pushed ∷ []
push_slots _ = pushed ∷ []

-- a pop reads the stack and writes its operand
abbrev pub pop_slots : Operand → List InstrSlot
pop_slots (operand.Mem m) = popped ∷ slot kind.Write (place.Operand m) ∷ []
pop_slots _ = popped ∷ []

-- the accesses of an instruction, in their order; a locked pair is one
abbrev pub slots : Instr → Flow → List InstrSlot
slots (instr.Alu o w to from locked) f = alu_slots o locked to from
slots (instr.Test w to from) f = compare_slots to from
slots (instr.Xchg w to from locked) f = combine_slots locked to from
slots (instr.Mov w to from) f = move_slots to from
slots (instr.Lea w to from) f = []
slots (instr.MovZx w v to from) f = read_slots from
slots (instr.MovSx w v to from) f = read_slots from
slots (instr.MovSxd to from) f = read_slots from
slots (instr.Push from) f = push_slots from
slots (instr.Pop to) f = pop_slots to
slots instr.Leave f = popped ∷ []
slots instr.Ret f = popped ∷ []
slots (instr.Call d) f = pushed ∷ []
slots (instr.Jmp d) f = jump_slots f
slots (instr.CallInd to) f = push_slots to
slots (instr.JmpInd to) f = indirect_slots f to
slots (instr.Jcc c d) f = []
slots (instr.SetCc c to) f = write_slots to
slots (instr.CmovCc c w to from) f = read_slots from
slots (instr.Inc w to locked) f = change_slots locked to
slots (instr.Dec w to locked) f = change_slots locked to
slots (instr.Not w to locked) f = change_slots locked to
slots (instr.Neg w to) f = change_slots false to
slots (instr.Mul w from) f = read_slots from
slots (instr.ImulOne w from) f = read_slots from
slots (instr.Div w from) f = read_slots from
slots (instr.Idiv w from) f = read_slots from
slots (instr.ImulTwo w to from) f = read_slots from
slots (instr.ImulThree w to from by) f = read_slots from
slots (instr.Shift o w to by) f = change_slots false to
slots (instr.Widen w) f = []
slots (instr.SignFill w) f = []
slots (instr.Cmpxchg w to from locked) f = combine_slots locked to from
slots (instr.Xadd w to from locked) f = combine_slots locked to from
slots instr.Nop f = []
slots instr.Pause f = []
slots instr.Endbr f = []
slots instr.Mfence f = []
slots instr.Ud2 f = []

-- the accesses that a value of the call's answer lists
abbrev pub listed : InstrSlots → List InstrSlot
listed some.Empty = []
listed (some.One a) = a ∷ []
listed (some.Two a b) = a ∷ b ∷ []

-- the slots of an instruction at its address
abbrev pub placed_slots : Placed → List Slot
placed_slots p = map (λ s. record { address = p.address; kind = s.kind }) (slots p.instr p.flow)

-- one access, or none, or a read and then a write
abbrev pub IsReadThenWrite : InstrSlots → Type 0
IsReadThenWrite (some.Two a b) = (a.kind ≡ kind.Read) × (b.kind ≡ kind.Write)
IsReadThenWrite _ = Unit {0}
