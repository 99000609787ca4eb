use Rattle.std.proofs.Common.{◌≤◌, ◌<◌, ◌*◌, ℕ}
use Rattle.std.specs.Prelude.{IsTrue}
use Rattle.elf_read.specs.ElfFile.{is_global}
use Rattle.elf_read.specs.Fields.{st_name}
use Rattle.elf_read.proofs.symbols.has_nameless.Given as goal

abbrev pub invariant-loop-i : goal.invariant-loop-i
invariant-loop-i l = (j : ℕ) → j < l.i → IsTrue (is_global l.symbols (24 * j)) → l.end ≤ st_name l.symbols (24 * j) → ⊥
