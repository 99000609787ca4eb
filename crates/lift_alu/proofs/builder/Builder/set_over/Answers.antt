use Rattle.std.proofs.Common.{◌∙◌}
use Rattle.lift_alu.specs.Products.{sets_over}
use Rattle.lift_alu.proofs.builder.Builder.set_over.Goals as goal

pub returns : goal.returns
unfolding sets_over
returns g c = λ rest. c.in_ok-over.ensures _ ∙ c.in_ok-zero.ensures _ ∙ c.in_ok-set_pairs.ensures rest
