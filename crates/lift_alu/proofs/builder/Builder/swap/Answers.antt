use Rattle.std.proofs.Common.{◌∙◌}
use Rattle.lift_alu.specs.Formulas.{done}
use Rattle.lift_alu.specs.Lifted.{swaps}
use Rattle.lift_alu.proofs.builder.Builder.swap.Goals as goal

pub returns : goal.returns
unfolding swaps
returns c =
    c.in_ok-value.ensures _ ∙ c.in_ok-old.ensures _ ∙ c.in_ok-put_operand.ensures c.args.site.at c.args.site.after done
