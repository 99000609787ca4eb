-- The program that a made file says.
use Rattle.std.proofs.Common.{◌≡◌, ◌≤◌, ℕ, ◌+◌, ◌-◌, List, [], ◌∷◌, ◌++◌, length, Option, Some, None, arith, refl, sym, ◌∙◌, ap, append_assoc}
use Rattle.std.specs.Prelude.{replicate, codes, decimal}
use Rattle.std.proofs.lemmas.Fmt.{decimal_digit}
use Rattle.ev_graph.specs.Memory.{Part}
use Rattle.elf_format.specs.Bytes.{padded}
use Rattle.elf_format.specs.Symbols.{symbol_table, string_table}
use Rattle.elf_read.specs.Bytes.{number_at, range_at}
use Rattle.elf_read.specs.Fields.{p_filesz}
use Rattle.elf_read.specs.ElfFile.{segment_at, segments_of, strings_of, symbol_count, value_from, address_of, with_address, threads_from, threads_of, thread_name, input_name, output_name}
use Rattle.elf_write.proofs.ReadParts.{Begins, range_between}
use Rattle.gen_input.specs.BuiltFile.{cells_at, built_headers, built_tables, built_sections}
use Rattle.gen_input.specs.Made.{made_code, made_symbols, made_file}
use Rattle.code_at.specs.Code.{Program, program_in}
use Rattle.made_laws.specs.Made.{code_part, cells_part, made_program}
use Rattle.made_laws.proofs.Shape.{zero_cells, up_to_cells, up_to_tables, file_of, length-front, length-up_to_cells}
use Rattle.made_laws.proofs.Tables.{table, names}
use Rattle.made_laws.proofs.NoFault.{IsMade, both_segments, symbols_are, names_are}
use Rattle.made_laws.proofs.MadeFile.{is_made, length-made_code}

-- what stands between the code and the cells
abbrev behind_code : List ℕ → List ℕ
behind_code code = replicate (cells_at (length code) - length (padded (built_headers (length code) 64 0x800000) 4096 ++ code)) 0

-- what stands behind the cells
abbrev behind_cells : List ℕ → List ℕ
behind_cells code = replicate (cells_at (length code) + 4096 - length (up_to_cells code ++ zero_cells)) 0

-- what stands behind the tables
abbrev behind_tables : List ℕ → List ℕ
behind_tables code = replicate (cells_at (length code) + 0x2000 - length (up_to_tables code ++ built_tables made_symbols)) 0

-- the section headers
abbrev headers_of : List ℕ → List ℕ
headers_of code = built_sections (cells_at (length code) + 4096) (length (symbol_table made_symbols)) (length (string_table made_symbols))

begins_code : (x b d e t f s : List ℕ) → Begins x ((((((x ++ b) ++ d) ++ e) ++ t) ++ f) ++ s)
begins_code x b d e t f s = record { rest = b ++ (d ++ (e ++ (t ++ (f ++ s)))); whole = simp append_assoc }

begins_cells : (x e t f s : List ℕ) → Begins x ((((x ++ e) ++ t) ++ f) ++ s)
begins_cells x e t f s = record { rest = e ++ (t ++ (f ++ s)); whole = simp append_assoc }

code_held : (code : List ℕ) → range_at (file_of code) 4096 (length code) ≡ code
code_held code =
    let front = padded (built_headers (length code) 64 0x800000) 4096 in
    range_between (file_of code) front code 4096
    (begins_code (front ++ code) (behind_code code) zero_cells (behind_cells code) (built_tables made_symbols) (behind_tables code) (headers_of code))
    (sym (length-front code))

cells_held : (code : List ℕ) → range_at (file_of code) (cells_at (length code)) 64 ≡ zero_cells
cells_held code =
    range_between (file_of code) (up_to_cells code) zero_cells (cells_at (length code))
    (begins_cells (up_to_cells code ++ zero_cells) (behind_cells code) (built_tables made_symbols) (behind_tables code) (headers_of code))
    (sym (length-up_to_cells code))

part_same : (p q : Part) → p.address ≡ q.address → p.size ≡ q.size → p.flags ≡ q.flags → p.bytes ≡ q.bytes → p ≡ q
part_same p q a s f b = λ k. record { address = a k; size = s k; flags = f k; bytes = b k }

first_part : (code : List ℕ) → length code ≤ 150000 → segment_at (file_of code) 64 ≡ code_part code
first_part code few =
    let bytes = file_of code in
    let is = is_made code few in
    part_same (segment_at bytes 64) (code_part code) is.code.address is.code.size is.code.flags
    (ap (λ o. range_at bytes o (p_filesz bytes 64)) is.code.offset ∙ ap (range_at bytes 4096) is.code.file_size ∙ code_held code)

second_part : (code : List ℕ) → length code ≤ 150000 → segment_at (file_of code) 120 ≡ cells_part
second_part code few =
    let bytes = file_of code in
    let is = is_made code few in
    part_same (segment_at bytes 120) cells_part is.cells.address is.cells.size is.cells.flags
    (ap (λ o. range_at bytes o (p_filesz bytes 120)) is.cells.offset ∙ ap (range_at bytes (cells_at (length code))) is.cells.file_size ∙ cells_held code)

parts_are : (code : List ℕ) → length code ≤ 150000 → segments_of (file_of code) ≡ code_part code ∷ cells_part ∷ []
parts_are code few =
    both_segments (file_of code) (length code) (cells_at (length code)) (is_made code few)
    ∙ ap (λ (p : Part). p ∷ segment_at (file_of code) 120 ∷ []) (first_part code few)
    ∙ ap (λ (p : Part). code_part code ∷ p ∷ []) (second_part code few)

-- a name is looked for in the table of the two threads
searched : (bytes : List ℕ) (size at : ℕ) (name : List ℕ) → IsMade bytes size at → address_of bytes name ≡ value_from name table names 0 3
searched bytes size at name is =
    ap (λ t. value_from name t (strings_of bytes) 0 (symbol_count t)) (symbols_are bytes size at is)
    ∙ ap (λ s. value_from name table s 0 3) (names_are bytes size at is)

digit_searched : (k : ℕ) (digits : List ℕ) (found : Option ℕ) → decimal k ≡ digits → value_from (codes "thread_" ++ digits) table names 0 3 ≡ found
    → value_from (thread_name k) table names 0 3 ≡ found
digit_searched k digits found spelled told = ap (λ ds. value_from (codes "thread_" ++ ds) table names 0 3) spelled ∙ told

zero_told : value_from (codes "thread_" ++ (48 ∷ [])) table names 0 3 ≡ Some 0x401000
unfolding number_at
zero_told = refl

one_told : value_from (codes "thread_" ++ (49 ∷ [])) table names 0 3 ≡ Some 0x401000
unfolding number_at
one_told = refl

two_told : value_from (codes "thread_" ++ (50 ∷ [])) table names 0 3 ≡ None
unfolding number_at
two_told = refl

input_told : value_from input_name table names 0 3 ≡ None
unfolding number_at
input_told = refl

output_told : value_from output_name table names 0 3 ≡ None
unfolding number_at
output_told = refl

-- two threads are told where the third is missing
two_threads : (begins : ℕ → Option ℕ) (a b : ℕ) → begins 0 ≡ Some a → begins 1 ≡ Some b → begins 2 ≡ None → threads_from begins 0 16 ≡ a ∷ b ∷ []
unfolding threads_from
two_threads begins a b first second third =
    ap (λ o. with_address o (threads_from begins 1 15)) first
    ∙ ap (λ o. a ∷ with_address o (threads_from begins 2 14)) second
    ∙ ap (λ o. a ∷ b ∷ with_address o (threads_from begins 3 13)) third

threads_are : (bytes : List ℕ) (size at : ℕ) → IsMade bytes size at → threads_of bytes ≡ 0x401000 ∷ 0x401000 ∷ []
threads_are bytes size at is =
    two_threads (λ k. address_of bytes (thread_name k)) 0x401000 0x401000
    (searched bytes size at (thread_name 0) is ∙ digit_searched 0 (48 ∷ []) (Some 0x401000) (decimal_digit 0 (omega arith)) zero_told)
    (searched bytes size at (thread_name 1) is ∙ digit_searched 1 (49 ∷ []) (Some 0x401000) (decimal_digit 1 (omega arith)) one_told)
    (searched bytes size at (thread_name 2) is ∙ digit_searched 2 (50 ∷ []) None (decimal_digit 2 (omega arith)) two_told)

program_same : (p q : Program) → p.parts ≡ q.parts → p.entries ≡ q.entries → p.input ≡ q.input → p.output ≡ q.output → p ≡ q
program_same p q a e i o = λ k. record { parts = a k; entries = e k; input = i k; output = o k }

-- a made file says this program
pub program_made : (n : ℕ) → n ≤ 20000 → program_in (made_file n) ≡ made_program n
program_made n few =
    let code = made_code n in
    let short = length-made_code n few in
    let bytes = made_file n in
    let at = cells_at (length code) in
    let is = is_made code short in
    program_same (program_in bytes) (made_program n) (parts_are code short) (threads_are bytes (length code) at is)
    (searched bytes (length code) at input_name is ∙ input_told) (searched bytes (length code) at output_name is ∙ output_told)
