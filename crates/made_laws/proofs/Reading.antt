-- What is read of a program header and of a section header that stand in bytes.
use Rattle.std.proofs.Common.{◌≡◌, ◌<◌, ◌^◌, ℕ, List, ◌++◌, length, sym, ◌∙◌, ap, add-zero}
use Rattle.elf_format.specs.declared.headers.ProgramHeader.{ProgramHeader}
use Rattle.elf_format.specs.declared.headers.SectionHeader.{SectionHeader}
use Rattle.elf_format.specs.Headers.{program_header, section_header}
use Rattle.elf_read.specs.Bytes.{number_at}
use Rattle.elf_read.specs.Fields.{p_type, p_flags, p_offset, p_vaddr, p_filesz, p_memsz, sh_type, sh_flags, sh_offset, sh_size, sh_link, sh_entsize}
use Rattle.elf_write.proofs.Reading.{number_there}
use Rattle.elf_write.proofs.ReadParts as parts
use Rattle.elf_write.proofs.ReadSymbols.{section_offset, section_size, section_kind, section_link}
use Rattle.made_laws.proofs.Headers.{section_flags, section_entry_size}

-- this program header stands there
pub record IsProgramHeader (bytes : List ℕ) (place : ℕ) (h : ProgramHeader) : Type 0 where
  pub kind : p_type bytes place ≡ 1
  pub flags : p_flags bytes place ≡ h.flags
  pub offset : p_offset bytes place ≡ h.offset
  pub address : p_vaddr bytes place ≡ h.address
  pub file_size : p_filesz bytes place ≡ h.file_size
  pub size : p_memsz bytes place ≡ h.size

pub record FitsProgram (h : ProgramHeader) : Type 0 where
  pub flags : h.flags < 2 ^ 32
  pub offset : h.offset < 2 ^ 64
  pub address : h.address < 2 ^ 64
  pub file_size : h.file_size < 2 ^ 64
  pub size : h.size < 2 ^ 64

pub program_there : (bytes xs rest : List ℕ) (place : ℕ) (h : ProgramHeader) → bytes ≡ xs ++ (program_header h ++ rest) → place ≡ length xs
    → FitsProgram h → IsProgramHeader bytes place h
program_there bytes xs rest place h whole at fits =
    let all = program_header h ++ rest in
    record {
      kind = ap (λ n. number_at bytes n 4) (sym (add-zero place)) ∙ number_there bytes xs all place 0 4 whole at ∙ parts.header_kind h rest;
      flags = number_there bytes xs all place 4 4 whole at ∙ parts.header_flags h rest fits.flags;
      offset = number_there bytes xs all place 8 8 whole at ∙ parts.header_offset h rest fits.offset;
      address = number_there bytes xs all place 16 8 whole at ∙ parts.header_address h rest fits.address;
      file_size = number_there bytes xs all place 32 8 whole at ∙ parts.header_file_size h rest fits.file_size;
      size = number_there bytes xs all place 40 8 whole at ∙ parts.header_size h rest fits.size;
    }

-- this section header stands there
pub record IsSectionHeader (bytes : List ℕ) (place : ℕ) (s : SectionHeader) : Type 0 where
  pub kind : sh_type bytes place ≡ s.kind
  pub flags : sh_flags bytes place ≡ 0
  pub offset : sh_offset bytes place ≡ s.offset
  pub size : sh_size bytes place ≡ s.size
  pub link : sh_link bytes place ≡ s.link
  pub entry_size : sh_entsize bytes place ≡ s.entry_size

pub record FitsSection (s : SectionHeader) : Type 0 where
  pub kind : s.kind < 2 ^ 32
  pub offset : s.offset < 2 ^ 64
  pub size : s.size < 2 ^ 64
  pub link : s.link < 2 ^ 32
  pub entry_size : s.entry_size < 2 ^ 64

pub section_there : (bytes xs rest : List ℕ) (place : ℕ) (s : SectionHeader) → bytes ≡ xs ++ (section_header s ++ rest) → place ≡ length xs
    → FitsSection s → IsSectionHeader bytes place s
section_there bytes xs rest place s whole at fits =
    let all = section_header s ++ rest in
    record {
      kind = number_there bytes xs all place 4 4 whole at ∙ section_kind s rest fits.kind;
      flags = number_there bytes xs all place 8 8 whole at ∙ section_flags s rest;
      offset = number_there bytes xs all place 24 8 whole at ∙ section_offset s rest fits.offset;
      size = number_there bytes xs all place 32 8 whole at ∙ section_size s rest fits.size;
      link = number_there bytes xs all place 40 4 whole at ∙ section_link s rest fits.link;
      entry_size = number_there bytes xs all place 56 8 whole at ∙ section_entry_size s rest fits.entry_size;
    }
