use Rattle.std.proofs.Common.{◌≡◌, ◌++◌, map}
use Rattle.elf_read.specs.Elf.{segment_part}
use Rattle.elf_read.specs.ElfFile.{segments_of}
use Rattle.elf_read.proofs.SegmentLemmas.{segments_left}
use Rattle.elf_read.proofs.segments.read_segments.Given as goal

abbrev pub invariant-loop-number : goal.invariant-loop-number
invariant-loop-number l = map segment_part l.segments.items ++ segments_left l.bytes l.number ≡ segments_of l.bytes
