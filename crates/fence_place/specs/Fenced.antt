-- Which fences stand around which steps.
use Rattle.std.specs.Prelude.{◌≡◌, List, [], ◌∷◌, if◌then◌else◌}
use Rattle.std.specs.List.{flat_map}
use Rattle.x64_syntax.specs.declared.slots.Slot.{Slot}
use Rattle.x64_syntax.specs.declared.slots.SlotKind.TheVariants.{Read, Write}
use Rattle.behavior.specs.Acts.{Permission}
use Rattle.behavior.specs.Seen.{placed}
use Rattle.behavior.specs.Kept.{SameNext, Keeps}
use Rattle.limm_ir.specs.Costs.{step_cost, fenced_cost}
use Rattle.limm_ir.specs.Steps.{IrState, ir_steps}
use Rattle.limm_ir.specs.declared.step.IrFence.TheVariants.{Frm, Fww, Fsc}
use Rattle.limm_ir.specs.declared.step.IrStep.{IrStep}
use Rattle.limm_ir.specs.declared.step.IrStep.TheVariants as steps
use Rattle.fence_place.specs.Marked.{marked}

-- A step with its fences: Frm behind a read and Fww before a write that are not marked, and Fsc on both sides of a locked
-- access.
abbrev pub fenced : List Slot → IrStep → List IrStep
fenced private (steps.Load t a size place) =
    if marked private (record { address = place; kind = Read }) then steps.Load t a size place ∷ [] else steps.Load t a size place ∷ steps.Fence Frm ∷ []
fenced private (steps.Store a v size place) =
    if marked private (record { address = place; kind = Write }) then steps.Store a v size place ∷ [] else steps.Fence Fww ∷ steps.Store a v size place ∷ []
fenced private (steps.Rmw op t a v size place) = steps.Fence Fsc ∷ steps.Rmw op t a v size place ∷ steps.Fence Fsc ∷ []
fenced private (steps.Cas t a e v size place) = steps.Fence Fsc ∷ steps.Cas t a e v size place ∷ steps.Fence Fsc ∷ []
fenced private x = x ∷ []

-- the steps with fences are the steps, each with its fences and no other
abbrev pub IsFenced : List Slot → List IrStep → List IrStep → Type 0
IsFenced private xs ys = ys ≡ flat_map (fenced private) xs

-- states that are the same
abbrev pub IsSameState : IrState → IrState → Type 0
IsSameState s t = s ≡ t

-- Fences keep accesses with their places, inputs and outputs: steps with fences do what the steps do, as far as those are
-- seen, and leave the same state. Steps cost what they cost with their fences.
abbrev pub KeepsPlaced : List IrStep → List IrStep → Type 0
KeepsPlaced xs ys = (may : Permission) (s : IrState) → Keeps placed 1 0 (SameNext IsSameState) (ir_steps fenced_cost may xs s) (ir_steps step_cost may ys s)
