use Rattle.std.proofs.Common.{◌∙◌, ap, ◌++◌}
use Rattle.std.specs.Prelude.{replicate}
use Rattle.elf_format.specs.declared.headers.SectionHeader.{SectionHeader}
use Rattle.elf_format.specs.Headers.{section_header, symbol_section, string_section}
use Rattle.elf_format.proofs.CallerLemmas.{appended_4}
use Rattle.elf_write.proofs.tables.push_sections.Goals as goal

pub returns : goal.returns
returns c =
    appended_4 c.args.out.now.items (replicate 64 0) (section_header (symbol_section 1 c.args.places.symbols c.args.symbols))
    (section_header (string_section 9 c.args.places.strings c.args.strings)) (section_header (string_section 17 c.args.places.names 27)) _ _ _ _
    c.in_ok-push_zeros.ensures
    (c.in_ok-push_section_header.ensures ∙ ap (λ (s : SectionHeader). c.push_zeros.new.out.items ++ section_header s) c.symbol_section.ensures)
    (c.in_ok-push_section_header-2.ensures ∙ ap (λ (s : SectionHeader). c.push_section_header.new.out.items ++ section_header s) c.string_section.ensures)
    (c.in_ok-push_section_header-3.ensures ∙ ap (λ (s : SectionHeader). c.push_section_header-2.new.out.items ++ section_header s) c.string_section-names.ensures)
