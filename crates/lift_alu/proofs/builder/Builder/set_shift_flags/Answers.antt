use Rattle.std.proofs.Common.{◌∙◌}
use Rattle.lift_alu.specs.Shifts.{shift_flags}
use Rattle.lift_alu.proofs.builder.Builder.set_shift_flags.Goals as goal

pub returns : goal.returns
unfolding shift_flags
returns c =
    λ rest. c.in_ok-settle_flag.ensures _ ∙ c.in_ok-settle_flag-2.ensures _ ∙ c.in_ok-settle_flag-3.ensures _
    ∙ c.in_ok-settle_flag-4.ensures rest
