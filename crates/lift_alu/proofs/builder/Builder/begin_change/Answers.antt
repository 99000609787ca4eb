use Rattle.std.proofs.Common.{◌∙◌}
use Rattle.lift_alu.proofs.builder.Builder.begin_change.Goals as goal

pub returns : goal.returns
returns c = λ rest. c.in_ok-there.ensures _ ∙ c.in_ok-value.ensures _
