use Rattle.std.proofs.Common.{◌∙◌}
use Rattle.lift_alu.specs.Formulas.{done}
use Rattle.lift_alu.specs.Lifted.{leaves_frame}
use Rattle.lift_alu.proofs.builder.Builder.leave_frame.Goals as goal

pub returns : goal.returns
unfolding leaves_frame
returns c = c.in_ok-value.ensures _ ∙ c.in_ok-set_register.ensures _ ∙ c.in_ok-set_register-2.ensures done
