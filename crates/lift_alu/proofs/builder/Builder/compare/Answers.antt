use Rattle.std.proofs.Common.{◌∙◌}
use Rattle.lift_alu.specs.Formulas.{done}
use Rattle.lift_alu.specs.Lifted.{compares}
use Rattle.lift_alu.proofs.builder.Builder.compare.Goals as goal

pub returns : goal.returns
unfolding compares
returns c = c.in_ok-a.ensures _ ∙ c.in_ok-b.ensures _ ∙ c.in_ok-value.ensures c.args.site.at c.args.site.after _ ∙ c.in_ok-set_flags_of.ensures c.args.site.at c.args.site.after done
