use Rattle.std.proofs.Common.{◌≡◌, ◌++◌, ◌-◌}
use Rattle.elf_read.specs.ElfFile.{threads_from}
use Rattle.elf_read.specs.Listed.{listed_value}
use Rattle.elf_read.specs.declared.listed.Listed.TheVariants.{Thread}
use Rattle.elf_read.proofs.listing.threads.Given as goal

abbrev pub invariant-loop-number : goal.invariant-loop-number
invariant-loop-number l =
    l.threads.items ++ threads_from (λ k. listed_value l.listing (Thread k)) l.number (16 - l.number)
    ≡ threads_from (λ k. listed_value l.listing (Thread k)) 0 16
