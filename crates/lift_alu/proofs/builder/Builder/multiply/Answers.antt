use Rattle.std.proofs.Common.{◌∙◌}
use Rattle.lift_alu.specs.Lifted.{multiplies}
use Rattle.lift_alu.proofs.builder.Builder.multiply.Goals as goal

pub returns : goal.returns
unfolding multiplies
returns c = c.in_ok-b.ensures _ ∙ c.in_ok-a.ensures _ ∙ c.in_ok-product.ensures _ ∙ c.in_ok-put_product.ensures
