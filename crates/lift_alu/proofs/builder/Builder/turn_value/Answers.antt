use Rattle.std.proofs.Common.{◌∙◌}
use Rattle.lift_alu.specs.Formulas.{done}
use Rattle.lift_alu.specs.Lifted.{changes}
use Rattle.lift_alu.proofs.builder.Builder.turn_value.Goals as goal

pub returns : goal.returns
unfolding changes
returns c =
    c.in_ok-change.ensures _ ∙ c.in_ok-new.ensures _ ∙ c.in_ok-write_there.ensures _ ∙ c.in_ok-set_turn_flags.ensures _ _
    ∙ c.in_ok-put_there.ensures c.args.site.at c.args.site.after done
