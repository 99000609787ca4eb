-- The pieces of a built file, and where they stand.
use Rattle.std.proofs.Common.{◌≡◌, ℕ, ◌+◌, ◌-◌, List, ◌++◌, length, arith, refl, append_assoc, length-append}
use Rattle.std.specs.Prelude.{replicate}
use Rattle.elf_format.specs.Bytes.{padded}
use Rattle.elf_format.specs.Headers.{file_header, program_header}
use Rattle.elf_format.specs.Symbols.{symbol_table, string_table}
use Rattle.elf_format.proofs.CallerLemmas.{length-padded}
use Rattle.gen_input.specs.BuiltFile.{cells_at, built_header, code_header, cells_header, built_headers, built_tables, built_sections}
use Rattle.gen_input.specs.Made.{made_symbols}

-- 64 zero cells
abbrev pub zero_cells : List ℕ
zero_cells = replicate 64 0

-- the headers and the code, with zeros up to the cells
abbrev pub up_to_cells : List ℕ → List ℕ
up_to_cells code = padded (padded (built_headers (length code) 64 0x800000) 4096 ++ code) (cells_at (length code))

-- what stands before the tables
abbrev pub up_to_tables : List ℕ → List ℕ
up_to_tables code = padded (up_to_cells code ++ zero_cells) (cells_at (length code) + 4096)

-- what stands before the section headers
abbrev pub up_to_sections : List ℕ → List ℕ
up_to_sections code = padded (up_to_tables code ++ built_tables made_symbols) (cells_at (length code) + 0x2000)

-- the file of this code
abbrev pub file_of : List ℕ → List ℕ
file_of code = up_to_sections code ++ built_sections (cells_at (length code) + 4096) (length (symbol_table made_symbols)) (length (string_table made_symbols))

cells_count : length zero_cells ≡ 64
cells_count = refl

length-headers : (code : List ℕ) → length (built_headers (length code) 64 0x800000) ≡ 176
length-headers code = refl

pub length-front : (code : List ℕ) → length (padded (built_headers (length code) 64 0x800000) 4096) ≡ 4096
length-front code = length-padded (built_headers (length code) 64 0x800000) 4096 (omega (arith, length-headers code))

pub length-up_to_cells : (code : List ℕ) → length (up_to_cells code) ≡ cells_at (length code)
length-up_to_cells code =
    let front = padded (built_headers (length code) 64 0x800000) 4096 in
    length-padded (front ++ code) (cells_at (length code)) (omega (arith, length-append front code, length-front code))

pub length-up_to_tables : (code : List ℕ) → length (up_to_tables code) ≡ cells_at (length code) + 4096
length-up_to_tables code =
    length-padded (up_to_cells code ++ zero_cells) (cells_at (length code) + 4096) (omega (arith, length-append (up_to_cells code) zero_cells, length-up_to_cells code, cells_count))

length-tables : length (built_tables made_symbols) ≡ 91
length-tables = refl

pub length-up_to_sections : (code : List ℕ) → length (up_to_sections code) ≡ cells_at (length code) + 0x2000
length-up_to_sections code =
    length-padded (up_to_tables code ++ built_tables made_symbols) (cells_at (length code) + 0x2000)
    (omega (arith, length-append (up_to_tables code) (built_tables made_symbols), length-up_to_tables code, length-tables))

length-sections : (at symbols strings : ℕ) → length (built_sections at symbols strings) ≡ 192
length-sections at symbols strings = refl

pub length-file : (code : List ℕ) → length (file_of code) ≡ cells_at (length code) + 0x2000 + 192
length-file code =
    let sections = built_sections (cells_at (length code) + 4096) (length (symbol_table made_symbols)) (length (string_table made_symbols)) in
    omega (
      arith,
      length-append (up_to_sections code) sections,
      length-up_to_sections code,
      length-sections (cells_at (length code) + 4096) (length (symbol_table made_symbols)) (length (string_table made_symbols)),
    )

pieces : (h p q a c b d e t f s : List ℕ)
    → (((((((((h ++ (p ++ q)) ++ a) ++ c) ++ b) ++ d) ++ e) ++ t) ++ f) ++ s)
    ≡ h ++ (p ++ (q ++ (a ++ (c ++ (b ++ (d ++ (e ++ (t ++ (f ++ s)))))))))
pieces h p q a c b d e t f s = simp append_assoc

-- what follows the headers
pub behind_headers : List ℕ → List ℕ
behind_headers code =
    replicate (4096 - length (built_headers (length code) 64 0x800000)) 0
    ++ (code ++ (replicate (cells_at (length code) - length (padded (built_headers (length code) 64 0x800000) 4096 ++ code)) 0
    ++ (zero_cells ++ (replicate (cells_at (length code) + 4096 - length (up_to_cells code ++ zero_cells)) 0
    ++ (built_tables made_symbols ++ (replicate (cells_at (length code) + 0x2000 - length (up_to_tables code ++ built_tables made_symbols)) 0
    ++ built_sections (cells_at (length code) + 4096) (length (symbol_table made_symbols)) (length (string_table made_symbols))))))))

-- the file begins with its header and the two program headers
pub file_begins : (code : List ℕ) → file_of code
    ≡ file_header (built_header (length code)) ++ (program_header (code_header (length code)) ++ (program_header (cells_header (cells_at (length code)) 0x800000 64) ++ behind_headers code))
unfolding behind_headers
file_begins code =
    let first = replicate (4096 - length (built_headers (length code) 64 0x800000)) 0 in
    let second = replicate (cells_at (length code) - length (padded (built_headers (length code) 64 0x800000) 4096 ++ code)) 0 in
    let third = replicate (cells_at (length code) + 4096 - length (up_to_cells code ++ zero_cells)) 0 in
    let fourth = replicate (cells_at (length code) + 0x2000 - length (up_to_tables code ++ built_tables made_symbols)) 0 in
    pieces (file_header (built_header (length code))) (program_header (code_header (length code))) (program_header (cells_header (cells_at (length code)) 0x800000 64))
    first code second zero_cells third (built_tables made_symbols) fourth
    (built_sections (cells_at (length code) + 4096) (length (symbol_table made_symbols)) (length (string_table made_symbols)))
