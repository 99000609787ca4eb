-- How the headers of an ELF-64 file are spelled, field by field (System V gABI, chapters 4 and 5).
use Rattle.std.specs.Prelude.{ℕ, List, [], ◌∷◌, ◌++◌}
use Rattle.elf_format.specs.declared.field.Field.{Field}
use Rattle.elf_format.specs.declared.field.Field.TheVariants.{Half, Word, Xword}
use Rattle.elf_format.specs.declared.headers.FileHeader.{FileHeader}
use Rattle.elf_format.specs.declared.headers.ProgramHeader.{ProgramHeader}
use Rattle.elf_format.specs.declared.headers.SectionHeader.{SectionHeader}
use Rattle.elf_format.specs.Fields.{spelled}

-- e_ident: ELF, 64 bits, little-endian, version 1
abbrev pub identification : List ℕ
identification = 0x7F ∷ 0x45 ∷ 0x4C ∷ 0x46 ∷ 2 ∷ 1 ∷ 1 ∷ 0 ∷ 0 ∷ 0 ∷ 0 ∷ 0 ∷ 0 ∷ 0 ∷ 0 ∷ 0 ∷ []

-- what follows e_ident in the header of an executable file: e_type (2), e_machine, e_version, e_entry, e_phoff, e_shoff,
-- e_flags, e_ehsize, e_phentsize, e_phnum, e_shentsize, e_shnum, e_shstrndx
abbrev pub file_header_fields : FileHeader → List Field
file_header_fields h =
    Half 2 ∷ Half h.machine ∷ Word 1 ∷ Xword h.entry ∷ Xword 64 ∷ Xword h.sections_at ∷ Word 0 ∷ Half 64 ∷ Half 56
    ∷ Half h.segment_count ∷ Half 64 ∷ Half h.section_count ∷ Half h.names_section ∷ []

-- the 64 bytes of a file's header
abbrev pub file_header : FileHeader → List ℕ
file_header h = identification ++ spelled (file_header_fields h)

-- p_type (PT_LOAD, 1), p_flags, p_offset, p_vaddr, p_paddr, p_filesz, p_memsz, p_align
abbrev pub program_header_fields : ProgramHeader → List Field
program_header_fields p =
    Word 1 ∷ Word p.flags ∷ Xword p.offset ∷ Xword p.address ∷ Xword p.address ∷ Xword p.file_size ∷ Xword p.size ∷ Xword 4096 ∷ []

-- the 56 bytes of a program header
abbrev pub program_header : ProgramHeader → List ℕ
program_header p = spelled (program_header_fields p)

-- sh_name, sh_type, sh_flags, sh_addr, sh_offset, sh_size, sh_link, sh_info, sh_addralign, sh_entsize
abbrev pub section_header_fields : SectionHeader → List Field
section_header_fields s =
    Word s.name ∷ Word s.kind ∷ Xword 0 ∷ Xword 0 ∷ Xword s.offset ∷ Xword s.size ∷ Word s.link ∷ Word s.info ∷ Xword s.alignment ∷ Xword s.entry_size ∷ []

-- the 64 bytes of a section header
abbrev pub section_header : SectionHeader → List ℕ
section_header s = spelled (section_header_fields s)

-- the section of a symbol table (SHT_SYMTAB, 2) whose names stand in the section behind it, number 2
abbrev pub symbol_section : ℕ → ℕ → ℕ → SectionHeader
symbol_section name offset size = record { name = name; kind = 2; offset = offset; size = size; link = 2; info = 1; alignment = 8; entry_size = 24 }

-- the section of a string table (SHT_STRTAB, 3)
abbrev pub string_section : ℕ → ℕ → ℕ → SectionHeader
string_section name offset size = record { name = name; kind = 3; offset = offset; size = size; link = 0; info = 0; alignment = 1; entry_size = 0 }
