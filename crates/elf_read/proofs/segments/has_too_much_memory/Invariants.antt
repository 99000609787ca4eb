use Rattle.std.proofs.Common.{◌≡◌, ◌≤◌, ◌+◌}
use Rattle.elf_read.specs.FileFaults.{memory_size}
use Rattle.elf_read.proofs.SegmentLemmas.{left_size}
use Rattle.elf_read.proofs.segments.has_too_much_memory.Given as goal

abbrev pub invariant-loop-number : goal.invariant-loop-number
invariant-loop-number l = record { counted : l.total + left_size l.bytes l.number ≡ memory_size l.bytes; low : l.total ≤ 268435456 }
