-- The bytes of an image file: header, program headers, the parts' bytes, symbols, strings, section names, section headers.
use Rattle.std.specs.Prelude.{ℕ, ◌+◌, ◌-◌, ◌*◌, ◌%◌, List, [], ◌∷◌, ◌++◌, length, replicate, slice_index, codes}
use Rattle.ev_graph.specs.Memory.{Part}
use Rattle.elf_read.specs.ElfFile.{thread_name}
use Rattle.elf_format.specs.declared.headers.FileHeader.{FileHeader}
use Rattle.elf_format.specs.declared.headers.ProgramHeader.{ProgramHeader}
use Rattle.elf_format.specs.declared.symbol.Symbol.{Symbol}
use Rattle.elf_format.specs.Bytes.{padded, rounded_up}
use Rattle.elf_format.specs.Headers.{file_header, program_header, section_header, symbol_section, string_section}
use Rattle.elf_format.specs.Symbols.{symbol_table, string_table}
use Rattle.elf_write.specs.declared.places.Places.{Places}

-- the least offset that is not below `end` and equals the address modulo 4,096
abbrev pub offset_after : ℕ → ℕ → ℕ
offset_after end address = end + (address + (4096 - end % 4096)) % 4096

-- where the bytes of the parts end, if they begin behind `end`
abbrev pub end_of : ℕ → List Part → ℕ
end_of end [] = end
end_of end (part ∷ parts) = end_of (offset_after end part.address + length part.bytes) parts

-- the program header of a part whose bytes stand at this offset
abbrev pub header_of : ℕ → Part → ProgramHeader
header_of offset part = record { flags = part.flags; offset = offset; address = part.address; file_size = length part.bytes; size = part.size }

-- the program headers of the parts, whose bytes stand one after another behind `end`
abbrev pub program_headers : ℕ → List Part → List ℕ
program_headers end [] = []
program_headers end (part ∷ parts) =
    program_header (header_of (offset_after end part.address) part) ++ program_headers (offset_after end part.address + length part.bytes) parts

-- what stands before, and behind it the bytes of the parts, each at its offset
abbrev pub with_parts : List ℕ → List Part → List ℕ
with_parts front [] = front
with_parts front (part ∷ parts) = with_parts (padded front (offset_after (length front) part.address) ++ part.bytes) parts

-- the symbols of the threads from number k on, which begin at these addresses
abbrev pub thread_symbols : ℕ → List ℕ → List Symbol
thread_symbols k [] = []
thread_symbols k (address ∷ addresses) = record { name = thread_name k; address = address } ∷ thread_symbols (k + 1) addresses

-- the names of the sections: at 1, 9 and 17
abbrev pub section_names : List ℕ
section_names = 0 ∷ codes ".symtab" ++ (0 ∷ codes ".strtab" ++ (0 ∷ codes ".shstrtab" ++ (0 ∷ [])))

-- where the parts' bytes begin, at the earliest
abbrev pub parts_at : List Part → ℕ
parts_at parts = 64 + 56 * length parts

-- the places behind parts that end at `end`: a symbol table of this size at the next multiple of 8, a string table of this size and
-- the section names directly after one another, and the section headers at the next multiple of 8
abbrev pub places_from : ℕ → ℕ → ℕ → Places
places_from end symbols strings = record {
  symbols = rounded_up 8 end;
  strings = rounded_up 8 end + symbols;
  names = rounded_up 8 end + symbols + strings;
  sections = rounded_up 8 (rounded_up 8 end + symbols + strings + length section_names);
}

-- the places of an image's file
abbrev pub places_of : List Part → List ℕ → Places
places_of parts threads =
    places_from (end_of (parts_at parts) parts) (length (symbol_table (thread_symbols 0 threads))) (length (string_table (thread_symbols 0 threads)))

-- an executable file for AArch64 (machine 183) that begins at thread 0
abbrev pub image_header : List Part → List ℕ → FileHeader
image_header parts threads = record {
  machine = 183;
  entry = slice_index threads 0;
  sections_at = (places_of parts threads).sections;
  segment_count = length parts;
  section_count = 4;
  names_section = 3;
}

-- the four section headers: an empty one, symbols, their names, and the names of the sections
abbrev pub image_sections : Places → ℕ → ℕ → List ℕ
image_sections places symbols strings =
    replicate 64 0
    ++ (section_header (symbol_section 1 places.symbols symbols)
    ++ (section_header (string_section 9 places.strings strings)
    ++ section_header (string_section 17 places.names (length section_names))))

-- the header, the program headers, and the bytes of the parts
abbrev pub front_of : FileHeader → List Part → List ℕ
front_of header parts = with_parts (file_header header ++ program_headers (parts_at parts) parts) parts

-- the file's bytes up to the end of the parts
abbrev pub image_front : List Part → List ℕ → List ℕ
image_front parts threads = front_of (image_header parts threads) parts

-- what follows the parts: tables of symbols and their names, and the names of the sections
abbrev pub image_tables : List ℕ → List ℕ
image_tables threads = symbol_table (thread_symbols 0 threads) ++ (string_table (thread_symbols 0 threads) ++ section_names)

-- the file's bytes, for these parts and for threads that begin at these addresses
abbrev pub image_file : List Part → List ℕ → List ℕ
image_file parts threads =
    padded (padded (image_front parts threads) (places_of parts threads).symbols ++ image_tables threads) (places_of parts threads).sections
    ++ image_sections (places_of parts threads) (length (symbol_table (thread_symbols 0 threads))) (length (string_table (thread_symbols 0 threads)))
