-- Fields of headers as they are read from the bytes that spell them.
use Rattle.std.proofs.Common.{◌≡◌, ℕ, List, [], ◌∷◌, ◌++◌, refl}
use Rattle.std.specs.Prelude.{take, slice_index}
use Rattle.elf_format.specs.declared.headers.FileHeader.{FileHeader}
use Rattle.elf_format.specs.declared.headers.SectionHeader.{SectionHeader}
use Rattle.elf_format.specs.Headers.{file_header, section_header}
use Rattle.elf_read.specs.Bytes.{number_at}
use Rattle.std.proofs.Common.{◌<◌, ◌^◌}
use Rattle.byteorder.specs.Numbers.{little_number-reads_back}

pub header_magic : (h : FileHeader) (rest : List ℕ) → take 4 (file_header h ++ rest) ≡ (0x7F ∷ 0x45 ∷ 0x4C ∷ 0x46 ∷ [])
header_magic h rest = refl

pub header_class : (h : FileHeader) (rest : List ℕ) → slice_index (file_header h ++ rest) 4 ≡ 2
header_class h rest = refl

pub header_order : (h : FileHeader) (rest : List ℕ) → slice_index (file_header h ++ rest) 5 ≡ 1
header_order h rest = refl

pub header_version : (h : FileHeader) (rest : List ℕ) → slice_index (file_header h ++ rest) 6 ≡ 1
header_version h rest = refl

pub header_kind : (h : FileHeader) (rest : List ℕ) → number_at (file_header h ++ rest) 16 2 ≡ 2
unfolding number_at
header_kind h rest = refl

pub header_program_size : (h : FileHeader) (rest : List ℕ) → number_at (file_header h ++ rest) 54 2 ≡ 56
unfolding number_at
header_program_size h rest = refl

pub header_section_size : (h : FileHeader) (rest : List ℕ) → number_at (file_header h ++ rest) 58 2 ≡ 64
unfolding number_at
header_section_size h rest = refl

pub section_flags : (s : SectionHeader) (rest : List ℕ) → number_at (section_header s ++ rest) 8 8 ≡ 0
unfolding number_at
section_flags s rest = refl

pub section_entry_size : (s : SectionHeader) (rest : List ℕ) → s.entry_size < 2 ^ 64 → number_at (section_header s ++ rest) 56 8 ≡ s.entry_size
unfolding number_at
section_entry_size s rest fits = little_number-reads_back 8 s.entry_size [] fits
