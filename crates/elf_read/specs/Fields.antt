-- The fields of an ELF-64 file's structures, under their names there (System V gABI, chapters 4 and 5). Those that begin with e_ are the file header's.
use Rattle.std.specs.Prelude.{ℕ, ◌+◌, ◌*◌, List}
use Rattle.elf_read.specs.Bytes.{number_at}

-- the kind of file: ET_EXEC is 2
abbrev pub e_type : List ℕ → ℕ
e_type bytes = number_at bytes 16 2

-- the processor: EM_X86_64 is 62
abbrev pub e_machine : List ℕ → ℕ
e_machine bytes = number_at bytes 18 2

-- where the program header table stands
abbrev pub e_phoff : List ℕ → ℕ
e_phoff bytes = number_at bytes 32 8

-- where the section header table stands, 0 where there is none
abbrev pub e_shoff : List ℕ → ℕ
e_shoff bytes = number_at bytes 40 8

-- the bytes of a program header
abbrev pub e_phentsize : List ℕ → ℕ
e_phentsize bytes = number_at bytes 54 2

-- how many there are
abbrev pub e_phnum : List ℕ → ℕ
e_phnum bytes = number_at bytes 56 2

-- the bytes of a section header
abbrev pub e_shentsize : List ℕ → ℕ
e_shentsize bytes = number_at bytes 58 2

-- how many there are
abbrev pub e_shnum : List ℕ → ℕ
e_shnum bytes = number_at bytes 60 2

-- where the entry of this number stands in the program header table
abbrev pub program_header_at : List ℕ → ℕ → ℕ
program_header_at bytes k = e_phoff bytes + 56 * k

-- of the program header that stands at an offset: its kind, PT_LOAD (1) where it is a segment
abbrev pub p_type : List ℕ → ℕ → ℕ
p_type bytes at = number_at bytes at 4

-- X 1, W 2 and R 4
abbrev pub p_flags : List ℕ → ℕ → ℕ
p_flags bytes at = number_at bytes (at + 4) 4

-- where the segment's bytes stand in the file
abbrev pub p_offset : List ℕ → ℕ → ℕ
p_offset bytes at = number_at bytes (at + 8) 8

-- its address in memory
abbrev pub p_vaddr : List ℕ → ℕ → ℕ
p_vaddr bytes at = number_at bytes (at + 16) 8

-- its bytes in the file
abbrev pub p_filesz : List ℕ → ℕ → ℕ
p_filesz bytes at = number_at bytes (at + 32) 8

-- its bytes in memory
abbrev pub p_memsz : List ℕ → ℕ → ℕ
p_memsz bytes at = number_at bytes (at + 40) 8

-- where the entry of this number stands in the section header table
abbrev pub section_header_at : List ℕ → ℕ → ℕ
section_header_at bytes k = e_shoff bytes + 64 * k

-- of the section header that stands at an offset: its kind
abbrev pub sh_type : List ℕ → ℕ → ℕ
sh_type bytes at = number_at bytes (at + 4) 4

-- its flags
abbrev pub sh_flags : List ℕ → ℕ → ℕ
sh_flags bytes at = number_at bytes (at + 8) 8

-- where the section's bytes stand in the file
abbrev pub sh_offset : List ℕ → ℕ → ℕ
sh_offset bytes at = number_at bytes (at + 24) 8

-- how many there are
abbrev pub sh_size : List ℕ → ℕ → ℕ
sh_size bytes at = number_at bytes (at + 32) 8

-- the number of a section that it refers to: for a symbol table its string table
abbrev pub sh_link : List ℕ → ℕ → ℕ
sh_link bytes at = number_at bytes (at + 40) 4

-- the bytes of an entry, where it is a table
abbrev pub sh_entsize : List ℕ → ℕ → ℕ
sh_entsize bytes at = number_at bytes (at + 56) 8

-- of the symbol that stands at an offset of a symbol table: where its name stands in the string table
abbrev pub st_name : List ℕ → ℕ → ℕ
st_name symbols at = number_at symbols at 4

-- its binding times 16, and its type
abbrev pub st_info : List ℕ → ℕ → ℕ
st_info symbols at = number_at symbols (at + 4) 1

-- the section that defines it, 0 where none does
abbrev pub st_shndx : List ℕ → ℕ → ℕ
st_shndx symbols at = number_at symbols (at + 6) 2

-- its value, an address
abbrev pub st_value : List ℕ → ℕ → ℕ
st_value symbols at = number_at symbols (at + 8) 8
