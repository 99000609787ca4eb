use Rattle.std.proofs.Common.{◌∙◌}
use Rattle.lift_alu.specs.Flags.{sets_result}
use Rattle.lift_alu.proofs.builder.Builder.set_result.Goals as goal

pub returns : goal.returns
unfolding sets_result
returns g c = λ rest. c.in_ok-set_flag.ensures _ ∙ c.in_ok-set_flag-2.ensures _ ∙ c.in_ok-set_flag-3.ensures rest
