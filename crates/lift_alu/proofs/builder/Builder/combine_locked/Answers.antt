use Rattle.std.proofs.Common.{◌∙◌, sym}
use Rattle.lift_alu.specs.Formulas.{done}
use Rattle.lift_alu.specs.Lifted.{combines_locked}
use Rattle.lift_alu.proofs.builder.Builder.combine_locked.Goals as goal

pub returns : goal.returns
unfolding combines_locked
returns c =
    rw (sym c.locked_op.ensures) (c.in_ok-b.ensures _ ∙ c.in_ok-a.ensures _ ∙ c.in_ok-value.ensures c.args.site.at c.args.site.after _
    ∙ c.in_ok-set_flags_of.ensures c.args.site.at c.args.site.after done)
