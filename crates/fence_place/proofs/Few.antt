-- Steps with fences cost no more than the steps with what their fences may cost.
use Rattle.std.proofs.Common.{ℕ, ◌≤◌, Bool, true, false, List, [], ◌∷◌, arith}
use Rattle.std.specs.Prelude.{if◌then◌else◌}
use Rattle.std.specs.List.{flat_map}
use Rattle.x64_syntax.specs.declared.slots.Slot.{Slot}
use Rattle.x64_syntax.specs.declared.slots.SlotKind.TheVariants.{Read, Write}
use Rattle.limm_ir.specs.Costs.{step_cost, fenced_cost, cost_of}
use Rattle.limm_ir.specs.declared.step.IrStep.{IrStep}
use Rattle.limm_ir.specs.declared.step.IrStep.TheVariants as steps
use Rattle.limm_ir.specs.declared.step.IrFence.TheVariants.{Frm, Fww}
use Rattle.limm_ir.proofs.CallerLemmas.{cost_of-append}
use Rattle.fence_place.specs.Marked.{marked}
use Rattle.fence_place.specs.Fenced.{fenced}

either : (b : Bool) (xs ys : List IrStep) (most : ℕ) → cost_of step_cost xs ≤ most → cost_of step_cost ys ≤ most → cost_of step_cost (if b then xs else ys) ≤ most
either true xs ys most one other = one
either false xs ys most one other = other

alone : (x : IrStep) → cost_of step_cost (x ∷ []) ≤ fenced_cost x
alone x = omega arith

step_few : (private : List Slot) (x : IrStep) → cost_of step_cost (fenced private x) ≤ fenced_cost x
step_few private (steps.Load t a size place) =
    either (marked private (record { address = place; kind = Read })) (steps.Load t a size place ∷ []) (steps.Load t a size place ∷ steps.Fence Frm ∷ []) 2 (omega arith) (omega arith)
step_few private (steps.Store a v size place) =
    either (marked private (record { address = place; kind = Write })) (steps.Store a v size place ∷ []) (steps.Fence Fww ∷ steps.Store a v size place ∷ []) 2 (omega arith) (omega arith)
step_few private (steps.Rmw op t a v size place) = omega arith
step_few private (steps.Cas t a e v size place) = omega arith
step_few private (steps.Const t v) = alone (steps.Const t v)
step_few private (steps.GetReg t r) = alone (steps.GetReg t r)
step_few private (steps.SetReg r t) = alone (steps.SetReg r t)
step_few private (steps.GetFlag t f) = alone (steps.GetFlag t f)
step_few private (steps.SetFlag f t) = alone (steps.SetFlag f t)
step_few private (steps.Op op t a b) = alone (steps.Op op t a b)
step_few private (steps.Select t c a b) = alone (steps.Select t c a b)
step_few private (steps.Fence f) = alone (steps.Fence f)
step_few private steps.Input = alone steps.Input
step_few private steps.Output = alone steps.Output
step_few private (steps.TrapIf t kind) = alone (steps.TrapIf t kind)

-- all of them
pub fences_few : (private : List Slot) (xs : List IrStep) → cost_of step_cost (flat_map (fenced private) xs) ≤ cost_of fenced_cost xs
fences_few private [] = omega arith
fences_few private (x ∷ xs) = omega (arith, cost_of-append step_cost (fenced private x) (flat_map (fenced private) xs), step_few private x, fences_few private xs)
