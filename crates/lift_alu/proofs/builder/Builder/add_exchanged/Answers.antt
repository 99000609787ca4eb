use Rattle.std.proofs.Common.{◌∙◌}
use Rattle.lift_alu.specs.Formulas.{done}
use Rattle.lift_alu.specs.Lifted.{adds_exchanged}
use Rattle.lift_alu.proofs.builder.Builder.add_exchanged.Goals as goal

pub returns : goal.returns
unfolding adds_exchanged
returns c =
    c.in_ok-a.ensures _ ∙ c.in_ok-b.ensures _ ∙ c.in_ok-sum.ensures c.args.site.at c.args.site.after _ ∙ c.in_ok-set_flags_of.ensures c.args.site.at c.args.site.after _
    ∙ c.in_ok-put_operand.ensures c.args.site.at c.args.site.after _ ∙ c.in_ok-put_operand-2.ensures c.args.site.at c.args.site.after done
