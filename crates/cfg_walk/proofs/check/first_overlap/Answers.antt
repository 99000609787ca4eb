use Rattle.std.proofs.Common.{arith}
use Rattle.cfg_walk.proofs.Scans.{neighbours_rise, neighbours_overlap, neighbours_apart, none_overlap}
use Rattle.cfg_walk.proofs.check.first_overlap.Goals as goal

pub overflow_sub-placed : goal.overflow_sub-placed
overflow_sub-placed c = neighbours_rise c.args.placed.now c.loop-k.k (omega (arith, c.loop-k.auto.k)) c.loop-k-test.true c.requires _ _

pub returns-then-placed-k : goal.returns-then-placed-k
returns-then-placed-k c =
    neighbours_overlap c.args.placed.now c.loop-k.k (omega (arith, c.loop-k.auto.k)) c.loop-k-test.true c.requires _ _ c.from.result c.if-placed-k.true c.from.ensures c.loop-k.invariant

pub loop-k-preserved : goal.loop-k-preserved
loop-k-preserved c =
    neighbours_apart c.args.placed.now c.loop-k.k (omega (arith, c.loop-k.auto.k)) c.loop-k-test.true c.requires _ _ c.from.result c.if-placed-k.false c.from.ensures c.loop-k.invariant

pub returns : goal.returns
returns c = λ program. none_overlap program c.args.placed.now c.loop-k.k (omega (arith, c.loop-k-test.false)) c.loop-k.invariant
