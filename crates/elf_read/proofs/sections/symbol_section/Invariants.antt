use Rattle.std.proofs.Common.{◌≡◌}
use Rattle.elf_read.specs.ElfFile.{symbol_section}
use Rattle.elf_read.proofs.SectionLemmas.{symbol_section_left}
use Rattle.elf_read.proofs.sections.symbol_section.Given as goal

abbrev pub invariant-loop-number : goal.invariant-loop-number
invariant-loop-number l = symbol_section l.bytes ≡ symbol_section_left l.bytes l.number
