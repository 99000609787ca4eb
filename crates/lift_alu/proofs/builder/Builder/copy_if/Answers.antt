use Rattle.std.proofs.Common.{◌∙◌}
use Rattle.lift_alu.specs.Lifted.{lifts}
use Rattle.lift_alu.proofs.builder.Builder.copy_if.Goals as goal

pub returns : goal.returns
unfolding lifts
returns c = c.in_ok-value.ensures _ ∙ c.in_ok-choose.ensures
