-- What the bytes of an ELF-64 file say (System V gABI, chapters 4 and 5): its segments, and where its threads and listed calls begin.
use Rattle.std.specs.Prelude.{ℕ, zero, suc, Bool, not, ◌+◌, ◌/◌, ◌==◌, ◌&&◌, List, [], ◌∷◌, ◌++◌, length, drop, take_while, codes, decimal, Option, Some, None, if◌then◌else◌}
use Rattle.std.specs.Str.{bytes_eq}
use Rattle.ev_graph.specs.Memory.{Part}
use Rattle.elf_read.specs.Bytes.{range_at}
use Rattle.elf_read.specs.Fields.{e_phoff, e_phnum, e_shoff, e_shnum, p_type, p_flags, p_offset, p_vaddr, p_filesz, p_memsz, section_header_at, sh_type, sh_offset, sh_size, sh_link, st_name, st_info, st_shndx, st_value}

-- the segment whose program header stands at this offset
abbrev pub segment_at : List ℕ → ℕ → Part
segment_at bytes at = record {
  address = p_vaddr bytes at;
  size = p_memsz bytes at;
  flags = p_flags bytes at;
  bytes = range_at bytes (p_offset bytes at) (p_filesz bytes at);
}

-- the PT_LOAD entries (type 1) among `count` program headers from this offset on, in order
abbrev pub segments_from : List ℕ → ℕ → ℕ → List Part
segments_from bytes at zero = []
segments_from bytes at (suc count) =
    if p_type bytes at == 1
    then segment_at bytes at ∷ segments_from bytes (at + 56) count
    else segments_from bytes (at + 56) count

-- the segments of the file
abbrev pub segments_of : List ℕ → List Part
segments_of bytes = segments_from bytes (e_phoff bytes) (e_phnum bytes)

-- the offset of the first section header of type SHT_SYMTAB (2) among `count` from this offset on
abbrev pub symbol_section_from : List ℕ → ℕ → ℕ → Option ℕ
symbol_section_from bytes at zero = None
symbol_section_from bytes at (suc count) = if sh_type bytes at == 2 then Some at else symbol_section_from bytes (at + 64) count

-- the offset of the header of the section whose symbols count: the first of type SHT_SYMTAB
abbrev pub symbol_section : List ℕ → Option ℕ
symbol_section bytes = symbol_section_from bytes (e_shoff bytes) (e_shnum bytes)

-- the bytes of the section whose header stands at this offset
abbrev pub section_bytes : List ℕ → ℕ → List ℕ
section_bytes bytes at = range_at bytes (sh_offset bytes at) (sh_size bytes at)

-- the symbol table, 24 bytes a symbol, of the section whose header stands at this offset
abbrev pub symbols_at : List ℕ → Option ℕ → List ℕ
symbols_at bytes None = []
symbols_at bytes (Some at) = section_bytes bytes at

-- its string table: the section that it links to
abbrev pub strings_at : List ℕ → Option ℕ → List ℕ
strings_at bytes None = []
strings_at bytes (Some at) = section_bytes bytes (section_header_at bytes (sh_link bytes at))

-- the symbol table of the file
abbrev pub symbols_of : List ℕ → List ℕ
symbols_of bytes = symbols_at bytes (symbol_section bytes)

-- the names of its symbols
abbrev pub strings_of : List ℕ → List ℕ
strings_of bytes = strings_at bytes (symbol_section bytes)

-- how many symbols it has
abbrev pub symbol_count : List ℕ → ℕ
symbol_count symbols = length symbols / 24

-- the name that begins at this offset of a string table: the bytes up to a zero
abbrev pub name_at : List ℕ → ℕ → List ℕ
name_at strings offset = take_while (λ b. not (b == 0)) (drop offset strings)

-- whether the symbol at this offset of a symbol table is defined and GLOBAL (binding 1)
abbrev pub is_global : List ℕ → ℕ → Bool
is_global symbols at = not (st_shndx symbols at == 0) && (st_info symbols at / 16 == 1)

-- whether it is defined, GLOBAL and has this name
abbrev pub is_symbol : List ℕ → List ℕ → List ℕ → ℕ → Bool
is_symbol name symbols strings at = is_global symbols at && bytes_eq (name_at strings (st_name symbols at)) name

-- the value of the first such symbol among `count` from this offset on
abbrev pub value_from : List ℕ → List ℕ → List ℕ → ℕ → ℕ → Option ℕ
value_from name symbols strings at zero = None
value_from name symbols strings at (suc count) =
    if is_symbol name symbols strings at
    then Some (st_value symbols at)
    else value_from name symbols strings (at + 24) count

-- where the symbol of this name is, the first where there are several
abbrev pub address_of : List ℕ → List ℕ → Option ℕ
address_of bytes name = value_from name (symbols_of bytes) (strings_of bytes) 0 (symbol_count (symbols_of bytes))

-- the name of the thread of this number
abbrev pub thread_name : ℕ → List ℕ
thread_name k = codes "thread_" ++ decimal k

-- the name of the listed call that takes an input
abbrev pub input_name : List ℕ
input_name = codes "lsg_input"

-- the name of the listed call that makes an output
abbrev pub output_name : List ℕ
output_name = codes "lsg_output"

-- an address and those after it; nothing where it is missing
abbrev pub with_address : Option ℕ → List ℕ → List ℕ
with_address None addresses = []
with_address (Some address) addresses = address ∷ addresses

-- the addresses of the threads from number k on, at most `most`, up to the first whose symbol is missing
unfoldable pub threads_from : (ℕ → Option ℕ) → ℕ → ℕ → List ℕ
threads_from begins k zero = []
threads_from begins k (suc most) = with_address (begins k) (threads_from begins (k + 1) most)

-- where the file's threads begin: at `thread_0` and so on, at most 16
abbrev pub threads_of : List ℕ → List ℕ
threads_of bytes = threads_from (λ k. address_of bytes (thread_name k)) 0 16
