use Rattle.std.proofs.Common.{◌≡◌, ◌*◌, take}
use Rattle.lift.specs.Block.{AreStepsFrom}
use Rattle.lift.proofs.placed.lift_each.Given as goal

abbrev pub invariant-loop-one : goal.invariant-loop-one
invariant-loop-one l = (l.temps ≡ 256 * l.one-index) × AreStepsFrom 0 (take l.one-index l.placed) l.steps.items
