use Rattle.std.proofs.Common.{arith, ◌∙◌}
use Rattle.elf_read.proofs.SectionLemmas.{section_passed}
use Rattle.elf_read.proofs.sections.symbol_section.Goals as goal

pub loop-number-preserved : goal.loop-number-preserved
loop-number-preserved c =
    c.loop-number.invariant ∙ section_passed c.args.bytes.now c.loop-number.number (omega arith) (λ kind. c.if-word_at-eq-SHT_SYMTAB.false (cc))
