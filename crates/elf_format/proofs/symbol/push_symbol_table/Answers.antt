use Rattle.std.proofs.Common.{ap, length}
use Rattle.elf_format.proofs.SymbolSteps.{drop_at, entries_step, names_step}
use Rattle.elf_format.proofs.symbol.push_symbol_table.Goals as goal

pub loop-symbol-preserved : goal.loop-symbol-preserved
loop-symbol-preserved c =
    let symbols = c.args.symbols.now in
    let i = c.loop-symbol.symbol-index in
    let here = drop_at symbols i c.symbol-item.result c.loop-symbol-test.true c.symbol-item.is in
    let size = ap length c.as_slice.ensures in
    record {
      written = entries_step _ _ _ _ _ i symbols _ here size c.in_ok-push_symbol.ensures c.loop-symbol.invariant.written;
      names = names_step _ _ _ i symbols _ here size c.loop-symbol.invariant.names;
    }
