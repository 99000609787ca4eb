-- What it means that bytes are the file of an image.
use Rattle.std.specs.Prelude.{◌≡◌, ◌<◌, ◌^◌, ℕ, List}
use Rattle.std.specs.List.{AllByRecursion}
use Rattle.elf_read.specs.Fields.{e_machine}
use Rattle.elf_read.specs.ElfFile.{segments_of, threads_of}
use Rattle.elf_write.specs.declared.image.Image.{Image}
use Rattle.elf_write.specs.Image.{image_parts}
use Rattle.elf_write.specs.ImageFile.{image_file}

-- The bytes are those of the image's file, and no others; and read by the rules for files they say the image.
pub record IsFileOf (image : Image) (file : List ℕ) : Type 0 where
  -- the words are words of 32 bits
  pub fit : AllByRecursion (λ word. word < 2 ^ 32) image.words
  pub bytes : file ≡ image_file (image_parts image) image.threads
  -- a file for AArch64 (EM_AARCH64)
  pub machine : e_machine file ≡ 183
  -- its segments are the image's, and behind them the code
  pub segments : segments_of file ≡ image_parts image
  -- its threads begin where the image's do
  pub threads : threads_of file ≡ image.threads
