use Rattle.std.proofs.Common.{◌≡◌, ◌++◌, drop, map}
use Rattle.elf_write.specs.Image.{image_part}
use Rattle.elf_write.specs.ImageFile.{program_headers}
use Rattle.elf_write.proofs.parts.push_program_headers.Given as goal

abbrev pub invariant-loop-segment : goal.invariant-loop-segment
invariant-loop-segment l =
    l.out.items ++ program_headers l.end (map image_part (drop l.segment-index l.segments))
    ≡ l.initial.out.items ++ program_headers l.initial.end (map image_part l.segments)
