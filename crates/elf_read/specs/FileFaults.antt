-- When each fault of an ELF-64 file holds, as a condition on its bytes. Which is the first is said by their order.
use Rattle.std.specs.Prelude.{◌≡◌, ◌≢◌, ◌<◌, ◌≤◌, ◌⊎◌, ◌+◌, ◌*◌, ◌%◌, ◌^◌, ℕ, List, [], ◌∷◌, length, take, sum_by, slice_index, IsTrue, Option, Some, None}
use Rattle.ev_graph.specs.Memory.{Part, has_flag}
use Rattle.elf_read.specs.declared.fault.FileFault.{FileFault}
use Rattle.elf_read.specs.declared.fault.FileFault.TheVariants.{TooLong, Short, Magic, Class, BadType, Machine, ProgramTable, Segment, TooBig, SymbolTable, NoThread, DoubleName, TooMuchCode, BadCode, Indirect, Overlap, TableEntered, UndefinedFlag}
use Rattle.elf_read.specs.Bytes.{PassesEnd}
use Rattle.elf_read.specs.Fields.{e_type, e_machine, e_phoff, e_shoff, e_phentsize, e_phnum, e_shentsize, e_shnum, program_header_at, p_type, p_flags, p_offset, p_vaddr, p_filesz, p_memsz, section_header_at, sh_type, sh_flags, sh_offset, sh_size, sh_link, sh_entsize, st_name}
use Rattle.elf_read.specs.ElfFile.{segments_of, symbol_section, section_bytes, symbols_of, strings_of, symbol_count, is_global, is_symbol, thread_name, input_name, output_name}

-- e_ident does not say 64 bits, little-endian, version 1
abbrev pub IsOtherClass : List ℕ → Type 0
IsOtherClass bytes = (slice_index bytes 4 ≢ 2) ⊎ ((slice_index bytes 5 ≢ 1) ⊎ (slice_index bytes 6 ≢ 1))

-- some program header is PT_DYNAMIC (2) or PT_INTERP (3)
abbrev pub IsLinkedAtStart : List ℕ → Type 0
IsLinkedAtStart bytes = (k : ℕ) × (k < e_phnum bytes) × ((p_type bytes (program_header_at bytes k) ≡ 2) ⊎ (p_type bytes (program_header_at bytes k) ≡ 3))

-- the entries have not 56 bytes, are none or more than 64, pass the end, or ask for a linker at the start
abbrev pub IsBadProgramTable : List ℕ → Type 0
IsBadProgramTable bytes =
    (e_phentsize bytes ≢ 56) ⊎ ((e_phnum bytes ≡ 0) ⊎ ((64 < e_phnum bytes)
    ⊎ (PassesEnd bytes (e_phoff bytes) (56 * e_phnum bytes) ⊎ IsLinkedAtStart bytes)))

-- entry k is a segment: PT_LOAD (1)
abbrev pub IsLoad : List ℕ → ℕ → Type 0
IsLoad bytes k = p_type bytes (program_header_at bytes k) ≡ 1

-- an address lies in the memory of the segment whose header stands at this offset
abbrev pub LiesIn : List ℕ → ℕ → ℕ → Type 0
LiesIn bytes at n = (p_vaddr bytes at ≤ n) × (n < p_vaddr bytes at + p_memsz bytes at)

-- entry j is a segment that has a byte in common with entry k
abbrev pub SharesWith : List ℕ → ℕ → ℕ → Type 0
SharesWith bytes j k = IsLoad bytes j × ((n : ℕ) × LiesIn bytes (program_header_at bytes j) n × LiesIn bytes (program_header_at bytes k) n)

-- entry k has a byte in common with an earlier segment
abbrev pub SharesByte : List ℕ → ℕ → Type 0
SharesByte bytes k = (j : ℕ) × (j < k) × SharesWith bytes j k

-- the segment whose header stands at this offset has file bytes past the end, more bytes in the file than in memory,
-- an end above 2 ^ 46, or may be both written and executed
abbrev pub IsBadSegment : List ℕ → ℕ → Type 0
IsBadSegment bytes at =
    PassesEnd bytes (p_offset bytes at) (p_filesz bytes at) ⊎ ((p_memsz bytes at < p_filesz bytes at)
    ⊎ ((2 ^ 46 < p_vaddr bytes at + p_memsz bytes at) ⊎ (IsTrue (has_flag (p_flags bytes at) 2) × IsTrue (has_flag (p_flags bytes at) 1))))

-- the bytes of memory of all segments
abbrev pub memory_size : List ℕ → ℕ
memory_size bytes = sum_by (λ (part : Part). part.size) (segments_of bytes)

-- there are no section headers of 64 bytes, or they pass the end
abbrev pub IsBadSectionTable : List ℕ → Type 0
IsBadSectionTable bytes =
    (e_shoff bytes ≡ 0) ⊎ ((e_shnum bytes ≡ 0) ⊎ ((e_shentsize bytes ≢ 64) ⊎ PassesEnd bytes (e_shoff bytes) (64 * e_shnum bytes)))

-- the section whose header stands at this offset passes the end, or is compressed (SHF_COMPRESSED, 0x800)
abbrev pub IsUnreadable : List ℕ → ℕ → Type 0
IsUnreadable bytes at = PassesEnd bytes (sh_offset bytes at) (sh_size bytes at) ⊎ IsTrue (has_flag (sh_flags bytes at) 0x800)

-- it is no table of symbols of 24 bytes
abbrev pub IsBadSymbolSection : List ℕ → ℕ → Type 0
IsBadSymbolSection bytes at = (sh_entsize bytes at ≢ 24) ⊎ ((sh_size bytes at % 24 ≢ 0) ⊎ IsUnreadable bytes at)

-- it links to no string table (SHT_STRTAB, 3) that can be read
abbrev pub IsBadStringSection : List ℕ → ℕ → Type 0
IsBadStringSection bytes at =
    let link = sh_link bytes at in let strings = section_header_at bytes link in
    (e_shnum bytes ≤ link) ⊎ ((sh_type bytes strings ≢ 3) ⊎ IsUnreadable bytes strings)

-- a name of a string table: it begins there, and a zero follows
abbrev pub IsName : List ℕ → ℕ → Type 0
IsName strings at = (k : ℕ) × (at ≤ k) × (k < length strings) × (slice_index strings k ≡ 0)

-- some defined GLOBAL symbol has no name
abbrev pub HasNameless : List ℕ → List ℕ → Type 0
HasNameless symbols strings =
    (i : ℕ) × (i < symbol_count symbols) × IsTrue (is_global symbols (24 * i)) × (IsName strings (st_name symbols (24 * i)) → ⊥)

-- the symbol table whose header stands there is bad; so is one that is missing
abbrev pub IsBadSymbolTable : List ℕ → Option ℕ → Type 0
IsBadSymbolTable bytes None = Unit {0}
IsBadSymbolTable bytes (Some at) =
    IsBadSymbolSection bytes at ⊎ (IsBadStringSection bytes at
    ⊎ HasNameless (section_bytes bytes at) (section_bytes bytes (section_header_at bytes (sh_link bytes at))))

-- the names that are listed: those of the calls, and of the threads 0 to 15
abbrev pub IsListedName : List ℕ → Type 0
IsListedName name = (name ≡ input_name) ⊎ ((name ≡ output_name) ⊎ ((k : ℕ) × (k < 16) × (name ≡ thread_name k)))

-- symbol i of a symbol table is defined, GLOBAL and has this name
abbrev pub IsNamed : List ℕ → List ℕ → ℕ → List ℕ → Type 0
IsNamed symbols strings i name = (i < symbol_count symbols) × IsTrue (is_symbol name symbols strings (24 * i))

-- no symbol begins the first thread
abbrev pub HasNoThread : List ℕ → List ℕ → Type 0
HasNoThread symbols strings = (i : ℕ) → IsNamed symbols strings i (thread_name 0) → ⊥

-- symbol i has a listed name that an earlier one has
abbrev pub RepeatsName : List ℕ → List ℕ → ℕ → Type 0
RepeatsName symbols strings i =
    (name : List ℕ) × IsListedName name × IsNamed symbols strings i name × ((j : ℕ) × (j < i) × IsNamed symbols strings j name)

-- When a fault holds of a file's bytes. The faults of its code, from TooMuchCode on, are no faults of the file that holds it.
abbrev pub Holds : List ℕ → FileFault → Type 0
Holds bytes TooLong = 67108864 < length bytes
Holds bytes Short = length bytes < 64
Holds bytes Magic = take 4 bytes ≢ (0x7F ∷ 0x45 ∷ 0x4C ∷ 0x46 ∷ [])
Holds bytes Class = IsOtherClass bytes
Holds bytes (BadType kind) = (kind ≡ e_type bytes) × (kind ≢ 2)
Holds bytes (Machine machine) = (machine ≡ e_machine bytes) × (machine ≢ 62)
Holds bytes ProgramTable = IsBadProgramTable bytes
Holds bytes (Segment i) = (i < e_phnum bytes) × IsLoad bytes i × (IsBadSegment bytes (program_header_at bytes i) ⊎ SharesByte bytes i)
Holds bytes TooBig = 268435456 < memory_size bytes
Holds bytes SymbolTable = IsBadSectionTable bytes ⊎ IsBadSymbolTable bytes (symbol_section bytes)
Holds bytes NoThread = HasNoThread (symbols_of bytes) (strings_of bytes)
Holds bytes (DoubleName i) = RepeatsName (symbols_of bytes) (strings_of bytes) i
Holds bytes TooMuchCode = ⊥
Holds bytes (BadCode fault) = ⊥
Holds bytes (Indirect a) = ⊥
Holds bytes (Overlap a) = ⊥
Holds bytes (TableEntered a) = ⊥
Holds bytes (UndefinedFlag a) = ⊥
