-- What steps access of memory, and which fences they have.
use Rattle.std.specs.Prelude.{List, [], ◌∷◌}
use Rattle.x64_syntax.specs.declared.instr.Instr.{Instr}
use Rattle.x64_syntax.specs.declared.instr.Instr.TheVariants as instr
use Rattle.x64_syntax.specs.declared.slots.Slot.{Slot}
use Rattle.x64_syntax.specs.declared.slots.SlotKind.TheVariants.{Read, Write, Locked}
use Rattle.limm_ir.specs.declared.step.IrFence.{IrFence}
use Rattle.limm_ir.specs.declared.step.IrFence.TheVariants.{Fsc}
use Rattle.limm_ir.specs.declared.step.IrStep.{IrStep}
use Rattle.limm_ir.specs.declared.step.IrStep.TheVariants as steps

-- what a step accesses: the place that it names, by its kind; a locked pair is one access
abbrev pub step_slots : IrStep → List Slot
step_slots (steps.Load t a size place) = record { address = place; kind = Read } ∷ []
step_slots (steps.Store a v size place) = record { address = place; kind = Write } ∷ []
step_slots (steps.Rmw op t a v size place) = record { address = place; kind = Locked } ∷ []
step_slots (steps.Cas t a e v size place) = record { address = place; kind = Locked } ∷ []
step_slots x = []

-- the fence that a step is, if it is one
abbrev pub step_fences : IrStep → List IrFence
step_fences (steps.Fence f) = f ∷ []
step_fences x = []

-- the fence that an instruction is, if it is one: MFENCE orders all
abbrev pub instr_fences : Instr → List IrFence
instr_fences instr.Mfence = Fsc ∷ []
instr_fences i = []
