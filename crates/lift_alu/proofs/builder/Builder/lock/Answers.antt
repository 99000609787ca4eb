use Rattle.std.proofs.Common.{◌∙◌}
use Rattle.lift_alu.specs.Lifted.{locks}
use Rattle.lift_alu.proofs.builder.Builder.lock.Goals as goal

pub returns : goal.returns
unfolding locks
returns g c = λ rest. c.in_ok-there.ensures _ ∙ c.in_ok-given.ensures _ ∙ c.in_ok-old.ensures rest
