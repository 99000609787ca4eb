use Rattle.std.proofs.Common.{arith, refl}
use Rattle.elf_read.specs.FileFaults.{Holds}
use Rattle.elf_read.specs.declared.fault.FileFault.TheVariants.{SymbolTable}
use Rattle.elf_read.proofs.FaultLemmas.{first_of_rank, nameless_holds}
use Rattle.elf_read.proofs.read.symbol_table.Goals as goal

pub returns-then-has_nameless-clause-first : goal.returns-then-has_nameless-clause-first
returns-then-has_nameless-clause-first c =
    let bytes = c.args.bytes.now in
    let nameless = c.has_nameless.ensures.0 c.if-has_nameless.true in
    first_of_rank (Holds bytes) SymbolTable 11 refl (omega arith)
    (nameless_holds bytes c.in-Some.at c.in-Some.ensures.some.found (rw (← c.symbols-symbols.ensures, ← c.strings-strings.ensures) nameless))
