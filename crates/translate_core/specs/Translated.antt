-- What is said of a translation.
use Rattle.std.specs.Prelude.{◌≡◌, ℕ, Bool, List, false}
use Rattle.x64_syntax.specs.declared.slots.Slot.{Slot}
use Rattle.elf_read.specs.declared.elf.Elf.{Elf}
use Rattle.elf_read.specs.Elf.{IsProgram, parts_of}
use Rattle.elf_read.specs.ElfFile.{segments_of, threads_of, address_of, input_name, output_name}
use Rattle.order_models.specs.Consistent.{Consistent}
use Rattle.order_models.specs.Orders.{Arm}
use Rattle.cfg_walk.specs.declared.code.Code.{Code}
use Rattle.carry_spec.specs.Carries.{Carries}

-- the program that the bytes of a file say
pub record IsReadOf (bytes : List ℕ) (elf : Elf) : Type 0 where
  pub segments : parts_of elf ≡ segments_of bytes
  pub threads : elf.threads ≡ threads_of bytes
  pub input : elf.input ≡ address_of bytes input_name
  pub output : elf.output ≡ address_of bytes output_name
  pub program : IsProgram (parts_of elf) elf.threads

-- The file carries the bytes, in the Armv8 order, with at most 256 words for an instruction, by this code of the bytes and these
-- words of the file.
pub record IsCarried (private : Slot → Bool) (bytes file : List ℕ) (code : Code) (code_address : ℕ) (words : List ℕ) : Type 0 where
  pub carries : Carries private (Consistent Arm false) 256 bytes file
  pub same_code : carries.code ≡ code
  pub same_address : carries.code_address ≡ code_address
  pub same_words : carries.words ≡ words
