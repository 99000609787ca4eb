use Rattle.std.proofs.Common.{refl}
use Rattle.isel.proofs.Steps.{selecting_next}
use Rattle.isel.proofs.selecting.select_each.Goals as goal

pub loop-step-preserved : goal.loop-step-preserved
loop-step-preserved c = selecting_next c.args.steps.now c.loop-step.step-index _ _ c.loop-step.invariant _ _ c.loop-step-test.true refl _ _ c.in_ok-push_group.ensures.words c.in_ok-note.ensures c.in_ok-push_group.ensures.fit
