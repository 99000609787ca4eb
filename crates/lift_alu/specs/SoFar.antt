-- The steps that a lifting has built so far, with those that are left.
use Rattle.std.specs.Prelude.{List, ◌++◌}
use Rattle.limm_ir.specs.declared.step.IrStep.{IrStep}
use Rattle.lift_alu.specs.Formulas.{Lifting}
use Rattle.lift_alu.specs.declared.builder.Builder.{Builder}

-- what is built and what is left, one behind the other
abbrev pub so_far : Builder → Lifting → List IrStep
so_far b rest = b.steps ++ rest b.next
