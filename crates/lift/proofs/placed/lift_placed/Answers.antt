use Rattle.std.proofs.Common.{sym, subst}
use Rattle.lift.specs.Block.{AreStepsFrom}
use Rattle.lift.proofs.Lifted.{lifted_means, lifted_selectable}
use Rattle.lift.proofs.Selectable.{block_few}
use Rattle.lift.proofs.placed.lift_placed.Goals as goal

pub returns-clause-meaning : goal.returns-clause-meaning
returns-clause-meaning c =
    lifted_means c.args.placed.now c.of.result c.last_end.result c.requires (subst (AreStepsFrom 0 c.args.placed.now) (sym c.of.ensures) c.in_ok-steps.ensures) c.last_end.ensures

pub returns-clause-few : goal.returns-clause-few
returns-clause-few c = block_few c.args.placed.now 0 c.of.result (subst (AreStepsFrom 0 c.args.placed.now) (sym c.of.ensures) c.in_ok-steps.ensures)

pub returns-clause-selectable : goal.returns-clause-selectable
returns-clause-selectable c =
    lifted_selectable c.args.placed.now c.of.result c.last_end.result c.requires (subst (AreStepsFrom 0 c.args.placed.now) (sym c.of.ensures) c.in_ok-steps.ensures) c.last_end.ensures

pub returns-clause-steps : goal.returns-clause-steps
returns-clause-steps c = subst (AreStepsFrom 0 c.args.placed.now) (sym c.of.ensures) c.in_ok-steps.ensures
