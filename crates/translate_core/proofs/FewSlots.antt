-- An instruction has at most two accesses.
use Rattle.std.proofs.Common.{◌≤◌, Bool, true, false, length, arith}
use Rattle.std.proofs.lemmas.List.{length-map}
use Rattle.x64_syntax.specs.Slots.{slots, listed, placed_slots, read_slots, write_slots, change_slots, compare_slots, move_slots, combine_slots, alu_slots, jump_slots, indirect_slots, push_slots, pop_slots}
use Rattle.x64_syntax.specs.declared.instr.AluOp.{AluOp}
use Rattle.x64_syntax.specs.declared.instr.AluOp.TheVariants as op
use Rattle.x64_syntax.specs.declared.placed.Flow.{Flow}
use Rattle.x64_syntax.specs.declared.placed.Flow.TheVariants as flow
use Rattle.x64_syntax.specs.declared.instr.Instr.{Instr}
use Rattle.x64_syntax.specs.declared.instr.Instr.TheVariants as instr
use Rattle.x64_syntax.specs.declared.operand.Operand.{Operand}
use Rattle.x64_syntax.specs.declared.operand.Operand.TheVariants as operand
use Rattle.x64_syntax.specs.declared.placed.Placed.{Placed}
use Rattle.x64_syntax.specs.declared.slots.Slot.{Slot}
use Rattle.x64_syntax.specs.declared.instr_slots.InstrSlot.{InstrSlot}
use Rattle.x64_syntax.specs.declared.instr_slots.InstrSlots.{InstrSlots}
use Rattle.x64_syntax.specs.declared.instr_slots.InstrSlots.TheVariants as some

reads : (o : Operand) → length (read_slots o) ≤ 2
reads (operand.Mem m) = omega arith
reads o = omega arith

writes : (o : Operand) → length (write_slots o) ≤ 2
writes (operand.Mem m) = omega arith
writes o = omega arith

changes : (locked : Bool) (o : Operand) → length (change_slots locked o) ≤ 2
changes true (operand.Mem m) = omega arith
changes false (operand.Mem m) = omega arith
changes locked o = omega arith

compares : (to from : Operand) → length (compare_slots to from) ≤ 2
compares (operand.Mem m) from = omega arith
compares to from = reads from

moves : (to from : Operand) → length (move_slots to from) ≤ 2
moves (operand.Mem m) from = omega arith
moves to from = reads from

combines : (locked : Bool) (to from : Operand) → length (combine_slots locked to from) ≤ 2
combines locked (operand.Mem m) from = changes locked (operand.Mem m)
combines locked to from = reads from

alus : (o : AluOp) (locked : Bool) (to from : Operand) → length (alu_slots o locked to from) ≤ 2
alus op.Cmp locked to from = compares to from
alus o locked to from = combines locked to from

jumps : (f : Flow) → length (jump_slots f) ≤ 2
jumps flow.ListedIn = omega arith
jumps flow.ListedOut = omega arith
jumps f = omega arith

goes : (f : Flow) (to : Operand) → length (indirect_slots f to) ≤ 2
goes flow.TableJump to = omega arith
goes f to = reads to

pushes : (o : Operand) → length (push_slots o) ≤ 2
pushes (operand.Mem m) = omega arith
pushes o = omega arith

pops : (o : Operand) → length (pop_slots o) ≤ 2
pops (operand.Mem m) = omega arith
pops o = omega arith

few : (i : Instr) (f : Flow) → length (slots i f) ≤ 2
few (instr.Alu o w to from locked) f = alus o locked to from
few (instr.Test w to from) f = compares to from
few (instr.Xchg w to from locked) f = combines locked to from
few (instr.Mov w to from) f = moves to from
few (instr.MovZx w v to from) f = reads from
few (instr.MovSx w v to from) f = reads from
few (instr.MovSxd to from) f = reads from
few (instr.Push from) f = pushes from
few (instr.Pop to) f = pops to
few (instr.Jmp d) f = jumps f
few (instr.CallInd to) f = pushes to
few (instr.JmpInd to) f = goes f to
few (instr.SetCc c to) f = writes to
few (instr.CmovCc c w to from) f = reads from
few (instr.Inc w to locked) f = changes locked to
few (instr.Dec w to locked) f = changes locked to
few (instr.Not w to locked) f = changes locked to
few (instr.Neg w to) f = changes false to
few (instr.Mul w from) f = reads from
few (instr.ImulOne w from) f = reads from
few (instr.Div w from) f = reads from
few (instr.Idiv w from) f = reads from
few (instr.ImulTwo w to from) f = reads from
few (instr.ImulThree w to from by) f = reads from
few (instr.Shift o w to by) f = changes false to
few (instr.Cmpxchg w to from locked) f = combines locked to from
few (instr.Xadd w to from locked) f = combines locked to from
few i f = omega arith

-- so has what a call answers
pub listed_few : (s : InstrSlots) → length (listed s) ≤ 2
listed_few some.Empty = omega arith
listed_few (some.One a) = omega arith
listed_few (some.Two a b) = omega arith

pub placed_few : (p : Placed) → length (placed_slots p) ≤ 2
placed_few p = let same = length-map (slots p.instr p.flow) at in let low = few p.instr p.flow in omega (arith, same, low)
  where
    at : InstrSlot → Slot
    at s = record { address = p.address; kind = s.kind }
