use Rattle.std.proofs.Common.{◌∙◌}
use Rattle.lift_alu.specs.Lifted.{divides_by}
use Rattle.lift_alu.proofs.builder.Builder.divide_by.Goals as goal

pub returns : goal.returns
unfolding divides_by
returns c =
    c.in_ok-trap_if.ensures _ ∙ c.in_ok-dividend.ensures _ ∙ c.in_ok-divisor.ensures _ ∙ c.in_ok-quotient.ensures _ ∙ c.in_ok-trap_if-2.ensures _
    ∙ c.in_ok-remainder.ensures _ ∙ c.in_ok-put_quotient.ensures
