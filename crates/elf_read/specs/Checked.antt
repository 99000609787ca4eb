-- What of a file stands once its first checks are passed.
use Rattle.std.specs.Prelude.{◌≡◌, ◌≤◌, ◌+◌, ◌*◌, ℕ, List, length, Some}
use Rattle.elf_read.specs.Fields.{e_phoff, e_phnum, e_shoff, e_shnum}
use Rattle.elf_read.specs.ElfFile.{symbol_section}
use Rattle.elf_read.specs.FileFaults.{IsBadSectionTable, IsBadSymbolSection, IsBadStringSection}

-- the header and the program header table are there, with at most 64 entries
pub record HasProgramTable (bytes : List ℕ) : Type 0 where
  pub header : 64 ≤ length bytes
  pub few : e_phnum bytes ≤ 64
  pub table : e_phoff bytes + 56 * e_phnum bytes ≤ length bytes

-- the header and the section header table are there
pub record HasSectionTable (bytes : List ℕ) : Type 0 where
  pub header : 64 ≤ length bytes
  pub table : e_shoff bytes + 64 * e_shnum bytes ≤ length bytes

-- the symbol table's section header stands at this offset, and its symbols and their names can be read
pub record HasSymbolTable (bytes : List ℕ) (at : ℕ) : Type 0 where
  pub sections : IsBadSectionTable bytes → ⊥
  pub found : symbol_section bytes ≡ Some at
  pub whole : at + 64 ≤ length bytes
  pub symbols : IsBadSymbolSection bytes at → ⊥
  pub strings : IsBadStringSection bytes at → ⊥
