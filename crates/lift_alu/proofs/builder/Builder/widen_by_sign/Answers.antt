use Rattle.std.proofs.Common.{◌∙◌}
use Rattle.lift_alu.specs.Formulas.{done}
use Rattle.lift_alu.specs.Lifted.{lifts}
use Rattle.lift_alu.proofs.builder.Builder.widen_by_sign.Goals as goal

pub returns : goal.returns
unfolding lifts
returns c = c.in_ok-value.ensures _ ∙ c.in_ok-put_operand.ensures c.args.site.at c.args.site.after done
