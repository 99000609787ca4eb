use Rattle.elf_read.proofs.ListingLemmas.{first_told}
use Rattle.elf_read.proofs.listing.begins_first_thread.Goals as goal

pub returns-in-Some : goal.returns-in-Some
returns-in-Some c = first_told _ _ _ _ _ c.in-Some.ensures.some.0 c.in-Some.ensures.some.1 c.is_first_thread.ensures
