-- The bytes of the files that are made of a code, cells and symbols.
use Rattle.std.specs.Prelude.{ℕ, ◌+◌, ◌≤◌, List, ◌++◌, length, replicate}
use Rattle.elf_format.specs.declared.headers.FileHeader.{FileHeader}
use Rattle.elf_format.specs.declared.headers.ProgramHeader.{ProgramHeader}
use Rattle.elf_format.specs.declared.symbol.Symbol.{Symbol}
use Rattle.elf_format.specs.Bytes.{padded, rounded_up}
use Rattle.elf_format.specs.Headers.{file_header, program_header, section_header, symbol_section, string_section}
use Rattle.elf_format.specs.Symbols.{symbol_table, string_table}

-- a name of at most 32 bytes
abbrev pub IsShort : Symbol → Type 0
IsShort symbol = length symbol.name ≤ 32

-- where the cells stand: the least multiple of 4,096 that is not below the end of the code, which stands at 4,096
abbrev pub cells_at : ℕ → ℕ
cells_at code_size = rounded_up 4096 (4096 + code_size)

-- an executable file for x86-64 (machine 62) that begins at 401000
abbrev pub built_header : ℕ → FileHeader
built_header code_size = record {
  machine = 62;
  entry = 0x401000;
  sections_at = cells_at code_size + 0x2000;
  segment_count = 2;
  section_count = 3;
  names_section = 0;
}

-- a segment whose bytes in memory all stand in the file
abbrev pub loaded : (flags offset address size : ℕ) → ProgramHeader
loaded flags offset address size = record { flags = flags; offset = offset; address = address; file_size = size; size = size }

-- the code's segment may be read and executed (flags 5)
abbrev pub code_header : ℕ → ProgramHeader
code_header size = loaded 5 4096 0x401000 size

-- that of the cells may be read and written (flags 6)
abbrev pub cells_header : (offset address size : ℕ) → ProgramHeader
cells_header offset address size = loaded 6 offset address size

-- the header and the two program headers
abbrev pub built_headers : (code_size cells_size cells_address : ℕ) → List ℕ
built_headers code_size cells_size cells_address =
    file_header (built_header code_size) ++ (program_header (code_header code_size) ++ program_header (cells_header (cells_at code_size) cells_address cells_size))

-- the headers, the code at 4,096, and the cells at their place
abbrev pub built_contents : List ℕ → List ℕ → ℕ → List ℕ
built_contents code cells cells_address =
    padded (padded (built_headers (length code) (length cells) cells_address) 4096 ++ code) (cells_at (length code)) ++ cells

-- the table of the symbols, and directly after it that of their names
abbrev pub built_tables : List Symbol → List ℕ
built_tables symbols = symbol_table symbols ++ string_table symbols

-- the three section headers: an empty one, symbols, and their names
abbrev pub built_sections : (symbols_at symbols strings : ℕ) → List ℕ
built_sections symbols_at symbols strings =
    replicate 64 0 ++ (section_header (symbol_section 0 symbols_at symbols) ++ section_header (string_section 0 (symbols_at + symbols) strings))

-- the file's bytes: the contents, the tables 4,096 behind the cells' place, and the section headers 8,192 behind it
abbrev pub built_file : List ℕ → List ℕ → ℕ → List Symbol → List ℕ
built_file code cells cells_address symbols =
    padded (padded (built_contents code cells cells_address) (cells_at (length code) + 4096) ++ built_tables symbols) (cells_at (length code) + 0x2000)
    ++ built_sections (cells_at (length code) + 4096) (length (symbol_table symbols)) (length (string_table symbols))
