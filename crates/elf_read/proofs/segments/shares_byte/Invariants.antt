use Rattle.std.proofs.Common.{◌<◌, ℕ}
use Rattle.elf_read.specs.FileFaults.{SharesWith}
use Rattle.elf_read.proofs.segments.shares_byte.Given as goal

abbrev pub invariant-loop-earlier : goal.invariant-loop-earlier
invariant-loop-earlier l = (j : ℕ) → j < l.earlier → SharesWith l.bytes j l.number → ⊥
