use Rattle.std.proofs.Common.{◌∙◌}
use Rattle.lift_alu.specs.Quotients.{sets_zeros}
use Rattle.lift_alu.proofs.builder.Builder.set_zeros.Goals as goal

pub returns : goal.returns
unfolding sets_zeros
returns c = λ rest. c.in_ok-zero.ensures _ ∙ c.in_ok-set_pairs.ensures rest
