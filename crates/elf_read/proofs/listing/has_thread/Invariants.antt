use Rattle.std.proofs.Common.{◌≡◌, ◌<◌, ◌*◌, ℕ, true}
use Rattle.elf_read.specs.ElfFile.{is_symbol, thread_name}
use Rattle.elf_read.proofs.listing.has_thread.Given as goal

abbrev pub invariant-loop-i : goal.invariant-loop-i
invariant-loop-i l = (j : ℕ) → j < l.i → is_symbol (thread_name 0) l.symbols l.strings (24 * j) ≡ true → ⊥
