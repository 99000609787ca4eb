use Rattle.std.proofs.Common.{◌∙◌}
use Rattle.lift_alu.specs.Lifted.{divides}
use Rattle.lift_alu.proofs.builder.Builder.divide.Goals as goal

pub returns : goal.returns
unfolding divides
returns c = c.in_ok-by.ensures _ ∙ c.in_ok-divide_by.ensures
