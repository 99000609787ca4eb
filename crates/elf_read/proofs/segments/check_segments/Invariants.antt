use Rattle.std.proofs.Common.{◌<◌, ℕ}
use Rattle.elf_read.specs.FileFaults.{Holds}
use Rattle.elf_read.specs.declared.fault.FileFault.TheVariants.{Segment}
use Rattle.elf_read.proofs.segments.check_segments.Given as goal

abbrev pub invariant-loop-number : goal.invariant-loop-number
invariant-loop-number l = (k : ℕ) → k < l.number → Holds l.bytes (Segment k) → ⊥
