use Rattle.std.proofs.Common.{◌+◌, refl, sym, subst}
use Rattle.ev_graph.specs.Memory.{Part, Apart}
use Rattle.std.specs.List.{AllByRecursion}
use Rattle.elf_write.specs.declared.image.ImageSegment.{ImageSegment}
use Rattle.elf_write.specs.Image.{image_part, code_part}
use Rattle.arm_replay.proofs.LayoutLemmas.{all_images}
use Rattle.arm_replay.proofs.layout.is_off_image.Goals as goal

pub returns-then-is_off_segments : goal.returns-then-is_off_segments
returns-then-is_off_segments c =
    let image = c.args.image.now in
    let seg = λ (segment : ImageSegment). Apart segment.address (segment.address + segment.size) c.args.stack.now.lo c.args.stack.now.hi in
    let all = all_images (λ (part : Part). Apart part.address (part.address + part.size) c.args.stack.now.lo c.args.stack.now.hi) image_part image.segments (code_part image.code_address image.words) in
    (λ off. all.0 (subst (AllByRecursion seg) c.as_slice.ensures (c.is_off_segments.ensures.0 c.if-is_off_segments.true), c.is_off_code.ensures.0 off), λ whole. c.is_off_code.ensures.1 (all.1 whole).1)

pub returns-else-is_off_segments : goal.returns-else-is_off_segments
returns-else-is_off_segments c =
    let image = c.args.image.now in
    let seg = λ (segment : ImageSegment). Apart segment.address (segment.address + segment.size) c.args.stack.now.lo c.args.stack.now.hi in
    let all = all_images (λ (part : Part). Apart part.address (part.address + part.size) c.args.stack.now.lo c.args.stack.now.hi) image_part image.segments (code_part image.code_address image.words) in
    (λ off. absurd (cc), λ whole. c.is_off_segments.ensures.1 (subst (AllByRecursion seg) (sym c.as_slice.ensures) (all.1 whole).0))
