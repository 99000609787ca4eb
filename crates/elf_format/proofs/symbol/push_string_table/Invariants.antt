use Rattle.std.proofs.Common.{◌≡◌, ◌++◌, drop}
use Rattle.elf_format.specs.Symbols.{symbol_names}
use Rattle.elf_format.proofs.symbol.push_string_table.Given as goal

abbrev pub invariant-loop-symbol : goal.invariant-loop-symbol
invariant-loop-symbol l = l.out.items ++ symbol_names (drop l.symbol-index l.symbols) ≡ l.initial.out.items ++ symbol_names l.symbols
