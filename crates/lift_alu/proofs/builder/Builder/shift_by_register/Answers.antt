use Rattle.std.proofs.Common.{◌∙◌}
use Rattle.lift_alu.specs.Lifted.{shifts}
use Rattle.lift_alu.proofs.builder.Builder.shift_by_register.Goals as goal

pub returns : goal.returns
unfolding shifts
returns c = c.in_ok-count.ensures _ ∙ c.in_ok-shift_by.ensures
