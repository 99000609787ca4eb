use Rattle.std.proofs.Common.{◌≡◌, ◌≤◌, ◌*◌, ◌∙◌, ap, arith, length, List}
use Rattle.elf_format.specs.declared.symbol.Symbol.{Symbol}
use Rattle.elf_format.specs.Symbols.{symbol_names}
use Rattle.elf_write.specs.ImageFile.{thread_symbols}
use Rattle.elf_write.proofs.Steps.{length-thread_names}
use Rattle.elf_write.proofs.tables.thread_tables.Goals as goal

pub push_symbol_table-requires : goal.push_symbol_table-requires
push_symbol_table-requires c =
    let same : length (symbol_names c.deref.result.now) ≡ length (symbol_names (thread_symbols 0 c.args.threads.now)) =
    ap (λ (symbols : List Symbol). length (symbol_names symbols)) (c.deref.ensures.value ∙ c.in_ok-named.ensures.symbols) in
    let short : length (symbol_names (thread_symbols 0 c.args.threads.now)) ≤ 28 * length c.args.threads.now =
    length-thread_names c.args.threads.now 0 (omega arith) in
    omega (arith, same, short)
