use Rattle.std.proofs.Common.{◌+◌, sym, ap, ◌∙◌, refl}
use Rattle.ev_graph.specs.Memory.{Apart}
use Rattle.elf_write.specs.declared.image.ImageSegment.{ImageSegment}
use Rattle.arm_replay.proofs.LayoutLemmas.{drop_at, behind_more, apart_at}
use Rattle.arm_replay.proofs.layout.is_off_segments.Goals as goal

pub loop-segment-preserved : goal.loop-segment-preserved
loop-segment-preserved c =
    let xs = c.args.segments.now in
    let i = c.loop-segment.segment-index in
    let x = c.segment-item.result in
    let stack = c.args.stack.now in
    let here = drop_at xs i x c.loop-segment-test.true c.segment-item.is in
    let low = c.from-low.ensures in
    let high = ap (λ n. n + c.from.result) low ∙ ap (λ n. x.address + n) c.from.ensures in
    behind_more (λ (segment : ImageSegment). Apart segment.address (segment.address + segment.size) stack.lo stack.hi) xs i x here
    (apart_at x.address (x.address + x.size) stack.lo stack.hi _ _ low high (c.if-not-is_apart.ensures.0 refl)) c.loop-segment.invariant
