use Rattle.std.proofs.Common.{map, drop}
use Rattle.elf_read.specs.Elf.{segment_part}
use Rattle.jump_table.specs.Entries.{AreFixed}
use Rattle.jump_table.proofs.entries.is_fixed.Given as goal

abbrev pub invariant-loop-segment : goal.invariant-loop-segment
invariant-loop-segment l =
    AreFixed (map segment_part l.elf.segments) l.address l.size
    → AreFixed (map segment_part (drop l.segment-index l.segment-items)) l.address l.size
