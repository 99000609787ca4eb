-- The barriers that steps stand for.
use Rattle.std.specs.Prelude.{List, [], ◌∷◌, flat_map}
use Rattle.ev_graph.specs.declared.events.FenceKind.{FenceKind}
use Rattle.behavior.specs.Seen.{barrier}
use Rattle.limm_ir.specs.Steps.{fence_of}
use Rattle.limm_ir.specs.declared.step.IrStep.{IrStep}
use Rattle.limm_ir.specs.declared.step.IrStep.TheVariants as steps

-- the barrier of a step, if it is a fence
abbrev pub step_barrier : IrStep → List FenceKind
step_barrier (steps.Fence f) = barrier (fence_of f) ∷ []
step_barrier x = []

-- the barriers of the fences among steps, in order
abbrev pub step_barriers : List IrStep → List FenceKind
step_barriers xs = flat_map step_barrier xs
