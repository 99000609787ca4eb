use Rattle.std.proofs.Common.{◌∙◌, ◌++◌, ap, arith}
use Rattle.lift_alu.specs.Meant.{AreStepsOf}
use Rattle.lift.proofs.Selectable.{steps_next}
use Rattle.lift.proofs.placed.lift_each.Goals as goal

pub loop-one-preserved : goal.loop-one-preserved
loop-one-preserved c =
    let one : AreStepsOf _ c.loop-one.temps c.in_ok-lifted.lifted = record {
      meaning = c.in_ok-lifted.ensures.meaning;
      few = c.in_ok-lifted.ensures.few;
      selectable = c.in_ok-lifted.ensures.selectable;
      own = c.in_ok-lifted.ensures.own;
      slots = c.in_ok-lifted.ensures.slots;
      fences = c.in_ok-lifted.ensures.fences;
    } in
    (omega (arith, c.loop-one.invariant.0), steps_next c.args.placed.now c.loop-one.one-index c.loop-one.temps _ _ _ _ c.loop-one-test.true c.loop-one.invariant.0 c.loop-one.invariant.1 one (c.in_ok-extend_from_slice.ensures.items ∙ ap (λ ys. c.loop-one.steps.items ++ ys) c.as_slice.ensures))
