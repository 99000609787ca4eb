use Rattle.std.proofs.Common.{◌≡◌, ℕ, List, map, ap, arith, ◌∙◌}
use Rattle.elf_read.specs.declared.listing.Listing.{Listing}
use Rattle.elf_read.specs.Elf.{segment_part}
use Rattle.elf_read.proofs.ProgramLemmas.{told_is_program}
use Rattle.elf_read.specs.Listed.{listed_value, Lists}
use Rattle.elf_read.specs.declared.listed.Listed.TheVariants.{Input, Output, Thread}
use Rattle.elf_read.specs.ElfFile.{address_of, thread_name, symbols_of, strings_of, symbol_count, threads_from, threads_of}
use Rattle.elf_read.proofs.ListingLemmas.{threads_same}
use Rattle.elf_read.proofs.read.program.Goals as goal

threads_are : (entries bytes : List ℕ) (listing : Listing) → Lists (symbols_of bytes) (strings_of bytes) (symbol_count (symbols_of bytes)) listing
    → entries ≡ threads_from (λ k. listed_value listing (Thread k)) 0 16 → entries ≡ threads_of bytes
threads_are entries bytes listing listed read =
    read ∙ threads_same (λ k. listed_value listing (Thread k)) (λ k. address_of bytes (thread_name k)) 0 16 (λ j low. listed (Thread j) (omega arith))

pub returns-clause-threads : goal.returns-clause-threads
returns-clause-threads c = threads_are _ c.args.bytes.now c.args.listing.now c.requires.listed (c.of-2.ensures ∙ c.in_ok-threads.ensures)

pub returns-clause-program : goal.returns-clause-program
returns-clause-program c =
    told_is_program c.args.bytes.now _ _ c.requires.clear (ap (map segment_part) c.of.ensures ∙ c.in_ok-segments.ensures)
    (threads_are _ c.args.bytes.now c.args.listing.now c.requires.listed (c.of-2.ensures ∙ c.in_ok-threads.ensures))

pub returns-clause-input : goal.returns-clause-input
returns-clause-input c = c.requires.listed Input tt

pub returns-clause-output : goal.returns-clause-output
returns-clause-output c = c.requires.listed Output tt
