use Rattle.std.proofs.Common.{◌≡◌, ◌*◌, ◌+◌, ◌∙◌, ap, arith, List, ℕ, ◌++◌, length}
use Rattle.elf_format.specs.Symbols.{symbol_table, string_table}
use Rattle.elf_format.proofs.CallerLemmas.{length-symbol_names, length-symbol_table}
use Rattle.gen_input.proofs.Written.{file_written}
use Rattle.gen_input.proofs.built.build.Goals as goal

pub push_symbol_table-requires : goal.push_symbol_table-requires
push_symbol_table-requires c =
    let short = length-symbol_names 32 c.args.symbols.now c.requires.names in omega (arith, short)

pub push_tables-requires-clause-symbols : goal.push_tables-requires-clause-symbols
push_tables-requires-clause-symbols c =
    let table : c.deref.result.now ≡ symbol_table c.args.symbols.now =
    c.deref.ensures.value ∙ c.in_ok-push_symbol_table.ensures ∙ ap (λ (l : List ℕ). l ++ symbol_table c.args.symbols.now) c.new-table.ensures.items in
    let size : length c.deref.result.now ≡ 24 + 24 * length c.args.symbols.now = ap length table ∙ length-symbol_table c.args.symbols.now in
    omega (arith, size)

pub returns : goal.returns
returns c =
    let table = c.deref.ensures.value ∙ c.in_ok-push_symbol_table.ensures ∙ ap (λ (l : List ℕ). l ++ symbol_table c.args.symbols.now) c.new-table.ensures.items in
    let strings = c.deref-2.ensures.value ∙ c.in_ok-push_string_table.ensures ∙ ap (λ (l : List ℕ). l ++ string_table c.args.symbols.now) c.new-strings.ensures.items in
    record { bytes = file_written c.args.code.now c.args.cells.now c.args.cells_address c.args.symbols.now _ _ _ _ c.cells_at.result c.in_ok-out.ensures table strings c.cells_at.ensures c.in_ok-push_tables.ensures }
