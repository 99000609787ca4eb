use Rattle.std.proofs.Common.{◌≡◌, drop, map}
use Rattle.elf_write.specs.Image.{image_part}
use Rattle.elf_write.specs.ImageFile.{with_parts}
use Rattle.elf_write.proofs.parts.push_parts.Given as goal

abbrev pub invariant-loop-segment : goal.invariant-loop-segment
invariant-loop-segment l =
    with_parts l.out.items (map image_part (drop l.segment-index l.segments)) ≡ with_parts l.initial.out.items (map image_part l.segments)
