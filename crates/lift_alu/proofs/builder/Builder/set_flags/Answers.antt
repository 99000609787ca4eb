use Rattle.std.proofs.Common.{◌∙◌}
use Rattle.lift_alu.specs.Flags.{sets_flags}
use Rattle.lift_alu.proofs.builder.Builder.set_flags.Goals as goal

pub returns : goal.returns
unfolding sets_flags
returns g c = λ rest. c.in_ok-set_result.ensures _ ∙ c.in_ok-set_flag.ensures rest
