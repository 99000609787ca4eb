use Rattle.std.proofs.Common.{◌∙◌}
use Rattle.lift_alu.specs.Formulas.{done}
use Rattle.lift_alu.specs.Lifted.{adds_locked}
use Rattle.lift_alu.proofs.builder.Builder.add_locked.Goals as goal

pub returns : goal.returns
unfolding adds_locked
returns c =
    c.in_ok-value.ensures _ ∙ c.in_ok-old.ensures _ ∙ c.in_ok-sum.ensures c.args.site.at c.args.site.after _
    ∙ c.in_ok-set_flags_of.ensures c.args.site.at c.args.site.after _
    ∙ c.in_ok-put_operand.ensures c.args.site.at c.args.site.after done
