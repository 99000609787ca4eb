use Rattle.lift_alu.specs.Lifted.{lifts}
use Rattle.lift_alu.proofs.builder.Builder.pop_return.Goals as goal

pub returns : goal.returns
unfolding lifts
returns c = c.in_ok-_address.ensures _
