use Rattle.std.proofs.Common.{◌∙◌}
use Rattle.lift_alu.specs.Formulas.{done}
use Rattle.lift_alu.specs.Lifted.{puts_bytes}
use Rattle.lift_alu.proofs.builder.Builder.put_bytes.Goals as goal

pub returns : goal.returns
unfolding puts_bytes
returns c = c.in_ok-set_zeros.ensures _ ∙ c.in_ok-put.ensures done
