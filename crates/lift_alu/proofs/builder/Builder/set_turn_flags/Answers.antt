use Rattle.std.proofs.Common.{◌∙◌}
use Rattle.lift_alu.specs.Turns.{turn_flags}
use Rattle.lift_alu.proofs.builder.Builder.set_turn_flags.Goals as goal

pub returns : goal.returns
unfolding turn_flags
returns c = λ old rest. c.in_ok-settle_flag.ensures _ ∙ c.in_ok-settle_flag-2.ensures rest
