use Rattle.std.proofs.Common.{◌+◌, sym, ap, ◌∙◌, refl, get_or}
use Rattle.ev_graph.specs.declared.execution.Stack.{Stack}
use Rattle.ev_graph.specs.Memory.{Apart}
use Rattle.arm_replay.proofs.LayoutLemmas.{drop_here, behind_more, apart_at}
use Rattle.arm_replay.proofs.layout.is_off_stacks.Goals as goal

pub loop-other-preserved : goal.loop-other-preserved
loop-other-preserved c =
    let xs = c.args.earlier.now in
    let i = c.loop-other.other-index in
    let none : Stack = record { lo = 0; hi = 0 } in
    let x = get_or xs i none in
    let stack = c.args.stack.now in
    let here = drop_here xs i none c.loop-other-test.true in
    behind_more (λ (other : Stack). Apart other.lo other.hi stack.lo stack.hi) xs i x here
    (apart_at x.lo x.hi stack.lo stack.hi _ _ c.from.ensures c.from-in-loop-other.ensures (c.if-not-is_apart.ensures.0 refl)) c.loop-other.invariant
