use Rattle.std.proofs.Common.{◌∙◌}
use Rattle.lift_alu.specs.Lifted.{pops}
use Rattle.lift_alu.proofs.builder.Builder.pop_value.Goals as goal

pub returns : goal.returns
unfolding pops
returns c = λ rest. c.in_ok-value.ensures _ ∙ c.in_ok-set_register.ensures _
