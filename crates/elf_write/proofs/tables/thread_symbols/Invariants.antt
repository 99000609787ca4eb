use Rattle.std.proofs.Common.{◌≡◌, ◌++◌, drop}
use Rattle.elf_write.specs.ImageFile.{thread_symbols}
use Rattle.elf_write.proofs.tables.thread_symbols.Given as goal

abbrev pub invariant-loop-number : goal.invariant-loop-number
invariant-loop-number l = l.symbols.items ++ thread_symbols l.number (drop l.number l.threads) ≡ thread_symbols 0 l.threads
