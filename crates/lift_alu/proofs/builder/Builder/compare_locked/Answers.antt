use Rattle.std.proofs.Common.{◌∙◌}
use Rattle.lift_alu.specs.Formulas.{done}
use Rattle.lift_alu.specs.Lifted.{compares_locked}
use Rattle.lift_alu.proofs.builder.Builder.compare_locked.Goals as goal

pub returns : goal.returns
unfolding compares_locked
returns c =
    c.in_ok-expected.ensures _ ∙ c.in_ok-value.ensures _ ∙ c.in_ok-there.ensures _ ∙ c.in_ok-old.ensures _
    ∙ c.in_ok-difference.ensures c.args.site.at c.args.site.after _
    ∙ c.in_ok-set_flags_of.ensures c.args.site.at c.args.site.after _ ∙ c.in_ok-set_register.ensures done
