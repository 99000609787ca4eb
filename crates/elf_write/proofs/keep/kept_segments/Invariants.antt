use Rattle.std.proofs.Common.{◌≡◌, ◌++◌, drop, map}
use Rattle.elf_read.specs.Elf.{segment_part}
use Rattle.elf_write.specs.Image.{image_part, kept}
use Rattle.elf_write.proofs.keep.kept_segments.Given as goal

abbrev pub invariant-loop-segment : goal.invariant-loop-segment
invariant-loop-segment l = map image_part l.made.items ++ kept (map segment_part (drop l.segment-index l.segments)) ≡ kept (map segment_part l.segments)
