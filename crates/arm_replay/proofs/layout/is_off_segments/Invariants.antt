use Rattle.std.proofs.Common.{◌+◌}
use Rattle.ev_graph.specs.Memory.{Apart}
use Rattle.elf_write.specs.declared.image.ImageSegment.{ImageSegment}
use Rattle.arm_replay.proofs.LayoutLemmas.{SameBehind}
use Rattle.arm_replay.proofs.layout.is_off_segments.Given as goal

abbrev pub invariant-loop-segment : goal.invariant-loop-segment
invariant-loop-segment l = SameBehind (λ (segment : ImageSegment). Apart segment.address (segment.address + segment.size) l.stack.lo l.stack.hi) l.segments l.segment-index
