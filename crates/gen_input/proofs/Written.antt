-- How the pieces that are written come together.
use Rattle.std.proofs.Common.{◌≡◌, ℕ, ◌+◌, List, ◌++◌, length, [], refl}
use Rattle.elf_format.specs.declared.symbol.Symbol.{Symbol}
use Rattle.elf_format.specs.Bytes.{padded}
use Rattle.elf_format.specs.Symbols.{symbol_table, string_table}
use Rattle.gen_input.specs.BuiltFile.{cells_at, built_headers, built_contents, built_sections, built_file}

-- contents, tables and section headers are the file
pub file_written : (code cells : List ℕ) (address : ℕ) (symbols : List Symbol) (contents table strings last : List ℕ) (at : ℕ)
    → contents ≡ built_contents code cells address → table ≡ symbol_table symbols → strings ≡ string_table symbols → at ≡ cells_at (length code)
    → last ≡ padded (padded contents (at + 4096) ++ (table ++ strings)) (at + 0x2000) ++ built_sections (at + 4096) (length table) (length strings)
    → last ≡ built_file code cells address symbols
file_written code cells address symbols contents table strings last at one two three four five = rw (five, one, four, two, three) refl

-- headers, code and cells are the contents
pub contents_written : (code cells : List ℕ) (address : ℕ) (empty headers first second third last : List ℕ) (at : ℕ)
    → empty ≡ [] → headers ≡ empty ++ built_headers (length code) (length cells) address → first ≡ padded headers 4096 → second ≡ first ++ code
    → at ≡ cells_at (length code) → third ≡ padded second at → last ≡ third ++ cells → last ≡ built_contents code cells address
contents_written code cells address empty headers first second third last at none one two three place four five =
    rw (five, four, place, three, two, one, none) refl
