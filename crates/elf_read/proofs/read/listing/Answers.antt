use Rattle.elf_read.proofs.FaultLemmas.{clear_listing, first_listing}
use Rattle.elf_read.proofs.read.listing.Goals as goal

pub returns-in-Ok-clause-first : goal.returns-in-Ok-clause-first
returns-in-Ok-clause-first c =
    clear_listing _ _ _ c.in_ok-table.ensures.symbols c.in_ok-table.ensures.strings c.in_ok-table.ensures.first c.if-not-has_thread.ensures c.in-Ok.ensures.once

pub returns-in-Err-clause-first : goal.returns-in-Err-clause-first
returns-in-Err-clause-first c =
    first_listing _ _ _ _ c.in_ok-table.ensures.symbols c.in_ok-table.ensures.strings c.in_ok-table.ensures.first c.if-not-has_thread.ensures
    c.in-Err.ensures.repeated c.in-Err.ensures.first
