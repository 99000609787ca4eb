-- Steps with the fences of gaps between them.
use Rattle.std.specs.Prelude.{Bool, true, false, List, [], ◌∷◌, ◌++◌}
use Rattle.x64_syntax.specs.declared.slots.Slot.{Slot}
use Rattle.limm_ir.specs.declared.step.IrFence.{IrFence}
use Rattle.limm_ir.specs.declared.step.IrFence.TheVariants.{Frm, Fww, Fsc}
use Rattle.limm_ir.specs.declared.step.IrStep.{IrStep}
use Rattle.limm_ir.specs.declared.step.IrStep.TheVariants as steps
use Rattle.fence_plan.specs.Gaps.{gaps}
use Rattle.fence_plan.specs.Planned.{later_gaps}
use Rattle.fence_plan.specs.declared.gap.Gap.{Gap}
use Rattle.fence_merge.specs.Roles.{role, stations}
use Rattle.fence_merge.specs.declared.role.Role.{Role}
use Rattle.fence_merge.specs.declared.role.Role.TheVariants.{Boundary, Fence, Other}

-- a fence as a step, where a gap holds it
abbrev pub step_if : Bool → IrFence → List IrStep
step_if true f = steps.Fence f ∷ []
step_if false f = []

-- the fences of a gap as steps
abbrev pub gap_steps : Gap → List IrStep
gap_steps g = step_if g.frm Frm ++ (step_if g.fww Fww ++ step_if g.fsc Fsc)

-- those of the first of these gaps
abbrev pub first_steps : List Gap → List IrStep
first_steps [] = []
first_steps (g ∷ gs) = gap_steps g

-- A step with what comes behind it, which is told by the gaps that are left: a slot has the first gap before it, and a fence
-- is left out.
abbrev pub woven_by : Role → IrStep → (rest : List Gap → List IrStep) → List Gap → List IrStep
woven_by (Boundary kind) x rest gs = first_steps gs ++ x ∷ rest (later_gaps gs)
woven_by (Fence f) x rest gs = rest gs
woven_by Other x rest gs = x ∷ rest gs

-- The steps without their fences, and with those of the gaps: each gap before the slot that ends it, and the last one at the
-- end.
abbrev pub woven : (private : List Slot) → List IrStep → List Gap → List IrStep
woven private [] gs = first_steps gs
woven private (x ∷ xs) gs = woven_by (role private x) x (woven private xs) gs

-- the steps with the planned fences alone
abbrev pub merged : (private : List Slot) → List IrStep → List IrStep
merged private xs = woven private xs (gaps (stations private xs))
