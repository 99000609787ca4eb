use Rattle.std.proofs.Common.{◌<◌, ℕ}
use Rattle.elf_read.specs.FileFaults.{RepeatsName}
use Rattle.elf_read.specs.Listed.{Lists}
use Rattle.elf_read.proofs.listing.list.Given as goal

abbrev pub invariant-loop-i : goal.invariant-loop-i
invariant-loop-i l = record {
  listed : Lists l.symbols l.strings l.i l.listing;
  once : (j : ℕ) → j < l.i → RepeatsName l.symbols l.strings j → ⊥;
}
