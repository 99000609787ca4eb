use Rattle.std.proofs.Common.{◌∙◌}
use Rattle.lift_alu.specs.Lifted.{writes_return}
use Rattle.lift_alu.proofs.builder.Builder.write_return.Goals as goal

pub returns : goal.returns
unfolding writes_return
returns c = λ rest. c.in_ok-behind.ensures _ ∙ c.in_ok-below.ensures _ ∙ c.in_ok-store.ensures _
