use Rattle.std.proofs.Common.{◌∙◌}
use Rattle.lift_alu.specs.Formulas.{done}
use Rattle.lift_alu.specs.Lifted.{pushes}
use Rattle.lift_alu.proofs.builder.Builder.push_value.Goals as goal

pub returns : goal.returns
unfolding pushes
returns c = c.in_ok-value.ensures _ ∙ c.in_ok-below.ensures _ ∙ c.in_ok-store.ensures _ ∙ c.in_ok-set_register.ensures done
