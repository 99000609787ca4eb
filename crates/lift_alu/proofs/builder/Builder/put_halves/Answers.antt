use Rattle.std.proofs.Common.{◌∙◌}
use Rattle.lift_alu.specs.Formulas.{done}
use Rattle.lift_alu.specs.Lifted.{puts_halves}
use Rattle.lift_alu.proofs.builder.Builder.put_halves.Goals as goal

pub returns : goal.returns
unfolding puts_halves
returns c = c.in_ok-high.ensures _ ∙ c.in_ok-set_over.ensures _ ∙ c.in_ok-put.ensures _ ∙ c.in_ok-put-2.ensures done
