-- How numbers are spelled in an ELF-64 file: little-endian (System V gABI, chapter 4, data representation).
use Rattle.std.specs.Prelude.{ℕ, List, [], ◌∷◌, flat_map}
use Rattle.byteorder.specs.Endian.{little_bytes}
use Rattle.elf_format.specs.declared.field.Field.{Field}
use Rattle.elf_format.specs.declared.field.Field.TheVariants.{Byte, Half, Word, Xword}

-- the bytes of a field
abbrev pub field_bytes : Field → List ℕ
field_bytes (Byte n) = n ∷ []
field_bytes (Half n) = little_bytes 2 n
field_bytes (Word n) = little_bytes 4 n
field_bytes (Xword n) = little_bytes 8 n

-- the bytes of fields that stand one after another
abbrev pub spelled : List Field → List ℕ
spelled fields = flat_map field_bytes fields
