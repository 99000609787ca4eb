use Rattle.std.proofs.Common.{◌≡◌, ◌+◌, ◌++◌, drop, length}
use Rattle.elf_format.specs.Symbols.{symbol_names, symbol_entries, string_table}
use Rattle.elf_format.proofs.symbol.push_symbol_table.Given as goal

abbrev pub invariant-loop-symbol : goal.invariant-loop-symbol
invariant-loop-symbol l = record {
  written : l.out.items ++ symbol_entries l.name_at (drop l.symbol-index l.symbols) ≡ l.initial.out.items ++ symbol_entries 1 l.symbols;
  names : l.name_at + length (symbol_names (drop l.symbol-index l.symbols)) ≡ length (string_table l.symbols);
}
