use Rattle.std.proofs.Common.{◌∙◌}
use Rattle.lift_alu.specs.Formulas.{done}
use Rattle.lift_alu.specs.Lifted.{multiplies_into}
use Rattle.lift_alu.proofs.builder.Builder.multiply_into.Goals as goal

pub returns : goal.returns
unfolding multiplies_into
returns c =
    c.in_ok-a.ensures _ ∙ c.in_ok-b.ensures _ ∙ c.in_ok-product.ensures _ ∙ c.in_ok-set_over.ensures _
    ∙ c.in_ok-put_operand.ensures c.args.site.at c.args.site.after done
