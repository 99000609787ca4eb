use Rattle.std.proofs.Common.{◌∙◌}
use Rattle.lift_alu.specs.Formulas.{done}
use Rattle.lift_alu.specs.Lifted.{combines, changes}
use Rattle.lift_alu.proofs.builder.Builder.combine.Goals as goal

pub returns : goal.returns
unfolding combines changes
returns c =
    c.in_ok-b.ensures _ ∙ c.in_ok-change.ensures _ ∙ c.in_ok-value.ensures c.args.site.at c.args.site.after _ ∙ c.in_ok-write_there.ensures _
    ∙ c.in_ok-set_flags_of.ensures c.args.site.at c.args.site.after _ ∙ c.in_ok-put_there.ensures c.args.site.at c.args.site.after done
