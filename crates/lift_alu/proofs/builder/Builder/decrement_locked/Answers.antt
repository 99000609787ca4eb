use Rattle.std.proofs.Common.{◌∙◌}
use Rattle.lift_alu.specs.Formulas.{done}
use Rattle.lift_alu.specs.Lifted.{decrements_locked}
use Rattle.lift_alu.proofs.builder.Builder.decrement_locked.Goals as goal

pub returns : goal.returns
unfolding decrements_locked
returns c =
    c.in_ok-old.ensures _ ∙ c.in_ok-new.ensures _ ∙ c.in_ok-set_result.ensures done
