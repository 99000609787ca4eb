use Rattle.std.proofs.Common.{◌≡◌, drop, map}
use Rattle.elf_write.specs.Image.{image_part}
use Rattle.elf_write.specs.ImageFile.{end_of}
use Rattle.elf_write.proofs.parts.parts_end.Given as goal

abbrev pub invariant-loop-segment : goal.invariant-loop-segment
invariant-loop-segment l = end_of l.end (map image_part (drop l.segment-index l.segments)) ≡ end_of l.initial.end (map image_part l.segments)
