use Rattle.std.proofs.Common.{◌∙◌}
use Rattle.lift_alu.specs.Lifted.{moves}
use Rattle.lift_alu.proofs.builder.Builder.move_to.Goals as goal

pub returns : goal.returns
unfolding moves
returns c = λ rest. c.in_ok-there.ensures _ ∙ c.in_ok-write_there.ensures _ ∙ c.in_ok-put_there.ensures c.args.site.at c.args.site.after rest
