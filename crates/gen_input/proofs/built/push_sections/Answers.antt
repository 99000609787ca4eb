use Rattle.std.proofs.Common.{◌∙◌, ◌+◌, ◌++◌, ap}
use Rattle.std.specs.Prelude.{replicate}
use Rattle.elf_format.specs.declared.headers.SectionHeader.{SectionHeader}
use Rattle.elf_format.specs.Headers.{section_header, symbol_section, string_section}
use Rattle.elf_format.proofs.CallerLemmas.{appended_3}
use Rattle.gen_input.proofs.built.push_sections.Goals as goal

pub returns : goal.returns
returns c =
    appended_3 c.args.out.now.items (replicate 64 0) (section_header (symbol_section 0 c.args.symbols_at c.args.symbols))
    (section_header (string_section 0 (c.args.symbols_at + c.args.symbols) c.args.strings)) _ _ _
    c.in_ok-push_zeros.ensures
    (c.in_ok-push_section_header.ensures ∙ ap (λ (s : SectionHeader). c.push_zeros.new.out.items ++ section_header s) c.symbol_section.ensures)
    (c.in_ok-push_section_header-2.ensures ∙ ap (λ (s : SectionHeader). c.push_section_header.new.out.items ++ section_header s) c.string_section.ensures)
