use Rattle.std.proofs.Common.{◌∙◌}
use Rattle.lift_alu.specs.Products.{sets_pairs}
use Rattle.lift_alu.proofs.builder.Builder.set_pairs.Goals as goal

pub returns : goal.returns
unfolding sets_pairs
returns c = λ rest. c.in_ok-set_flag.ensures _ ∙ c.in_ok-set_flag-2.ensures _ ∙ c.in_ok-set_flag-3.ensures _ ∙ c.in_ok-set_flag-4.ensures rest
