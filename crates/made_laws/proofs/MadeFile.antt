-- The files of rounds have these fields.
use Rattle.std.proofs.Common.{◌≡◌, ◌≤◌, ◌^◌, ℕ, ◌+◌, ◌-◌, List, [], ◌++◌, length, Some, arith, refl, sym, ◌∙◌, ap, append_assoc, append-nil, length-append, lit<}
use Rattle.std.specs.Prelude.{take, slice_index, replicate}
use Rattle.elf_format.specs.declared.headers.SectionHeader.{SectionHeader}
use Rattle.elf_format.specs.Headers.{file_header, program_header, section_header, symbol_section, string_section}
use Rattle.elf_format.specs.Symbols.{symbol_table, string_table}
use Rattle.elf_read.specs.Bytes.{range_at}
use Rattle.elf_read.specs.Fields.{e_type, e_machine, e_phoff, e_shoff, e_phentsize, e_phnum, e_shentsize, e_shnum}
use Rattle.elf_read.specs.ElfFile.{symbol_section_from, symbols_at, strings_at}
use Rattle.elf_read.specs.ElfFile as file
use Rattle.elf_read.specs.FileFaults.{Holds}
use Rattle.elf_read.specs.FirstFault.{Clear}
use Rattle.elf_write.proofs.ReadParts.{Begins, range_between}
use Rattle.elf_write.proofs.ReadImage.{header_segments_at, header_machine, header_sections_at, header_segment_count, header_section_count}
use Rattle.elf_write.proofs.ReadSymbols.{symbol_section_found, tables_found}
use Rattle.gen_input.specs.BuiltFile.{cells_at, built_header, code_header, cells_header, built_tables, built_sections}
use Rattle.gen_input.specs.Made.{cells_to_rdi, return, rounds_code, made_code, made_symbols, made_file}
use Rattle.gen_input.proofs.Rounds.{length_rounds}
use Rattle.made_laws.proofs.Headers.{header_magic, header_class, header_order, header_version, header_kind, header_program_size, header_section_size}
use Rattle.made_laws.proofs.Shape.{file_of, up_to_tables, up_to_sections, length-file, length-up_to_tables, length-up_to_sections, behind_headers, file_begins}
use Rattle.made_laws.proofs.Tables.{table, names}
use Rattle.made_laws.proofs.Reading.{IsProgramHeader, program_there, IsSectionHeader, section_there}
use Rattle.made_laws.proofs.NoFault.{IsMade, clear_made}

-- the places of a file with at most 150,000 bytes of code
record ArePlaces (size : ℕ) : Type 0 where
  above : 4096 + size ≤ cells_at size
  below : cells_at size ≤ 2 ^ 18

places : (size : ℕ) → size ≤ 150000 → ArePlaces size
places size few = record { above = omega (arith, few); below = omega (arith, few) }

-- the header of the symbols' section, and that of their names'
abbrev symbols_header : ℕ → SectionHeader
symbols_header at = symbol_section 0 (at + 4096) 72

abbrev strings_header : ℕ → SectionHeader
strings_header at = string_section 0 (at + 4096 + 72) 19

-- what stands behind the section headers' place
sections_are : (code : List ℕ) → file_of code
    ≡ up_to_sections code ++ (replicate 64 0 ++ (section_header (symbols_header (cells_at (length code))) ++ (section_header (strings_header (cells_at (length code))) ++ [])))
sections_are code =
    let at = cells_at (length code) in
    ap (λ l. up_to_sections code ++ (replicate 64 0 ++ (section_header (symbols_header at) ++ l))) (sym (append-nil (section_header (strings_header at))))

code_there : (code : List ℕ) → length code ≤ 150000 → IsProgramHeader (file_of code) 64 (code_header (length code))
code_there code few =
    let h = file_header (built_header (length code)) in
    let d = program_header (cells_header (cells_at (length code)) 0x800000 64) in
    program_there (file_of code) h (d ++ behind_headers code) 64 (code_header (length code)) (file_begins code) refl
    (record { flags = lit< tt; offset = lit< tt; address = lit< tt; file_size = omega (arith, few); size = omega (arith, few) })

cells_there : (code : List ℕ) → length code ≤ 150000 → IsProgramHeader (file_of code) 120 (cells_header (cells_at (length code)) 0x800000 64)
cells_there code few =
    let h = file_header (built_header (length code)) in
    let c = program_header (code_header (length code)) in
    let d = program_header (cells_header (cells_at (length code)) 0x800000 64) in
    let at = places (length code) few in
    program_there (file_of code) (h ++ c) (behind_headers code) 120 (cells_header (cells_at (length code)) 0x800000 64)
    (file_begins code ∙ sym (append_assoc h c (d ++ behind_headers code))) refl
    (record { flags = lit< tt; offset = omega (arith, at.below); address = lit< tt; file_size = lit< tt; size = lit< tt })

symbols_there : (code : List ℕ) → length code ≤ 150000
    → IsSectionHeader (file_of code) (cells_at (length code) + 0x2000 + 64) (symbols_header (cells_at (length code)))
symbols_there code few =
    let before = up_to_sections code in
    let at = cells_at (length code) in
    let low = places (length code) few in
    let rest = section_header (strings_header at) ++ [] in
    section_there (file_of code) (before ++ replicate 64 0) rest (at + 0x2000 + 64) (symbols_header at)
    (sections_are code ∙ sym (append_assoc before (replicate 64 0) (section_header (symbols_header at) ++ rest)))
    (ap (λ n. n + 64) (sym (length-up_to_sections code)) ∙ sym (length-append before (replicate 64 0)))
    (record { kind = lit< tt; offset = omega (arith, low.below); size = lit< tt; link = lit< tt; entry_size = lit< tt })

strings_there : (code : List ℕ) → length code ≤ 150000
    → IsSectionHeader (file_of code) (cells_at (length code) + 0x2000 + 128) (strings_header (cells_at (length code)))
strings_there code few =
    let before = up_to_sections code in
    let at = cells_at (length code) in
    let low = places (length code) few in
    let empty : List ℕ = replicate 64 0 in
    let first : List ℕ = section_header (symbols_header at) in
    let rest = section_header (strings_header at) ++ [] in
    let long : length ((before ++ empty) ++ first) ≡ length before + 64 + 64 = length-append (before ++ empty) first ∙ ap (λ n. n + 64) (length-append before empty) in
    section_there (file_of code) ((before ++ empty) ++ first) [] (at + 0x2000 + 128) (strings_header at)
    (sections_are code ∙ sym (append_assoc before empty (first ++ rest)) ∙ sym (append_assoc (before ++ empty) first rest))
    (omega (arith, long, length-up_to_sections code))
    (record { kind = lit< tt; offset = omega (arith, low.below); size = lit< tt; link = lit< tt; entry_size = lit< tt })

begins_first : (base t n z s : List ℕ) → Begins (base ++ t) (((base ++ (t ++ n)) ++ z) ++ s)
begins_first base t n z s = record { rest = n ++ (z ++ s); whole = simp append_assoc }

begins_second : (base t n z s : List ℕ) → Begins ((base ++ t) ++ n) (((base ++ (t ++ n)) ++ z) ++ s)
begins_second base t n z s = record { rest = z ++ s; whole = simp append_assoc }

-- the zeros behind the tables
abbrev behind_tables : List ℕ → List ℕ
behind_tables code = replicate (cells_at (length code) + 0x2000 - length (up_to_tables code ++ built_tables made_symbols)) 0

abbrev headers_of : List ℕ → List ℕ
headers_of code = built_sections (cells_at (length code) + 4096) (length (symbol_table made_symbols)) (length (string_table made_symbols))

symbols_held : (code : List ℕ) → range_at (file_of code) (cells_at (length code) + 4096) (length table) ≡ table
symbols_held code =
    range_between (file_of code) (up_to_tables code) table (cells_at (length code) + 4096)
    (begins_first (up_to_tables code) table names (behind_tables code) (headers_of code)) (sym (length-up_to_tables code))

names_held : (code : List ℕ) → range_at (file_of code) (cells_at (length code) + 4096 + 72) (length names) ≡ names
names_held code =
    range_between (file_of code) (up_to_tables code ++ table) names (cells_at (length code) + 4096 + 72)
    (begins_second (up_to_tables code) table names (behind_tables code) (headers_of code))
    (ap (λ n. n + 72) (sym (length-up_to_tables code)) ∙ sym (length-append (up_to_tables code) table))

sections_place : (code : List ℕ) → length code ≤ 150000 → e_shoff (file_of code) ≡ cells_at (length code) + 0x2000
sections_place code few =
    let h = built_header (length code) in
    let rest = program_header (code_header (length code)) ++ (program_header (cells_header (cells_at (length code)) 0x800000 64) ++ behind_headers code) in
    let low = places (length code) few in
    ap e_shoff (file_begins code) ∙ header_sections_at h rest (omega (arith, low.below))

sections_count : (code : List ℕ) → e_shnum (file_of code) ≡ 3
sections_count code =
    let h = built_header (length code) in
    let rest = program_header (code_header (length code)) ++ (program_header (cells_header (cells_at (length code)) 0x800000 64) ++ behind_headers code) in
    ap e_shnum (file_begins code) ∙ header_section_count h rest (lit< tt)

section_found : (code : List ℕ) → length code ≤ 150000 → file.symbol_section (file_of code) ≡ Some (cells_at (length code) + 0x2000 + 64)
section_found code few =
    let bytes = file_of code in
    let at = cells_at (length code) in
    ap (λ o. symbol_section_from bytes o (e_shnum bytes)) (sections_place code few) ∙ ap (λ c. symbol_section_from bytes (at + 0x2000) c) (sections_count code)
    ∙ symbol_section_found bytes (up_to_sections code) [] (at + 0x2000) 1 0 (at + 4096) 72 0 (at + 4096 + 72) 19 (sections_are code) (sym (length-up_to_sections code))

tables_read : (code : List ℕ) → length code ≤ 150000
    → (symbols_at (file_of code) (Some (cells_at (length code) + 0x2000 + 64)) ≡ table)
    × (strings_at (file_of code) (Some (cells_at (length code) + 0x2000 + 64)) ≡ names)
tables_read code few =
    let at = cells_at (length code) in
    let low = places (length code) few in
    tables_found (file_of code) (up_to_sections code) [] table names (at + 0x2000) 0 (at + 4096) 0 (at + 4096 + 72)
    (sections_are code) (sym (length-up_to_sections code)) (sections_place code few) (omega (arith, low.below)) (omega (arith, low.below)) (lit< tt) (lit< tt)
    (symbols_held code) (names_held code)

-- such a file has all these fields
pub is_made : (code : List ℕ) → length code ≤ 150000 → IsMade (file_of code) (length code) (cells_at (length code))
is_made code few =
    let bytes = file_of code in
    let h = built_header (length code) in
    let rest = program_header (code_header (length code)) ++ (program_header (cells_header (cells_at (length code)) 0x800000 64) ++ behind_headers code) in
    let low = places (length code) few in
    let whole = file_begins code in
    let tables = tables_read code few in
    record {
      long = length-file code;
      above = low.above;
      below = omega (arith, low.below);
      magic = ap (take 4) whole ∙ header_magic h rest;
      class = ap (λ l. slice_index l 4) whole ∙ header_class h rest;
      order = ap (λ l. slice_index l 5) whole ∙ header_order h rest;
      version = ap (λ l. slice_index l 6) whole ∙ header_version h rest;
      kind = ap e_type whole ∙ header_kind h rest;
      machine = ap e_machine whole ∙ header_machine h rest (lit< tt);
      programs_at = ap e_phoff whole ∙ header_segments_at h rest;
      program_size = ap e_phentsize whole ∙ header_program_size h rest;
      programs = ap e_phnum whole ∙ header_segment_count h rest (lit< tt);
      sections_at = sections_place code few;
      section_size = ap e_shentsize whole ∙ header_section_size h rest;
      sections = sections_count code;
      code = code_there code few;
      cells = cells_there code few;
      symbols = symbols_there code few;
      strings = strings_there code few;
      found = section_found code few;
      symbols_read = tables.0;
      names_read = tables.1;
    }

-- the code of at most 20,000 rounds is short
pub length-made_code : (n : ℕ) → n ≤ 20000 → length (made_code n) ≤ 150000
length-made_code n few =
    let front = length-append cells_to_rdi (rounds_code n ++ return) in
    let back = length-append (rounds_code n) return in
    omega (arith, few, front, back, length_rounds n)

pub made_clear : (n : ℕ) → 1 ≤ n → n ≤ 20000 → Clear (Holds (made_file n)) 1 13
made_clear n some few = clear_made (made_file n) (length (made_code n)) (cells_at (length (made_code n))) (is_made (made_code n) (length-made_code n few))
