use Rattle.std.proofs.Common.{◌∙◌, ◌+◌, ap, ℕ, ◌++◌}
use Rattle.elf_format.specs.Headers.{file_header, program_header}
use Rattle.elf_format.proofs.CallerLemmas.{appended_3}
use Rattle.gen_input.specs.BuiltFile.{cells_at, built_header, code_header, cells_header}
use Rattle.gen_input.proofs.built.push_headers.Goals as goal

pub returns : goal.returns
returns c =
    appended_3 c.args.out.now.items (file_header (built_header c.args.code_size)) (program_header (code_header c.args.code_size))
    (program_header (cells_header (cells_at c.args.code_size) c.args.cells_address c.args.cells_size)) _ _ _
    (c.in_ok-push_file_header.ensures
    ∙ ap (λ (n : ℕ). c.args.out.now.items ++ file_header (record { machine = 62; entry = 0x401000; sections_at = n + 0x2000; segment_count = 2; section_count = 3; names_section = 0 })) c.cells_at-cells_at.ensures)
    c.in_ok-push_segment.ensures
    (c.in_ok-push_segment-2.ensures
    ∙ ap (λ (n : ℕ). c.push_segment.new.out.items ++ program_header (cells_header n c.args.cells_address c.args.cells_size)) c.cells_at-cells_at.ensures)
