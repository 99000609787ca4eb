-- How symbols and their names are spelled (System V gABI, chapter 4, symbol table and string table).
use Rattle.std.specs.Prelude.{ℕ, ◌+◌, List, [], ◌∷◌, ◌++◌, length, replicate}
use Rattle.elf_format.specs.declared.field.Field.{Field}
use Rattle.elf_format.specs.declared.field.Field.TheVariants.{Byte, Half, Word, Xword}
use Rattle.elf_format.specs.declared.symbol.Symbol.{Symbol}
use Rattle.elf_format.specs.Fields.{spelled}

-- st_name, st_info (GLOBAL, function), st_other, st_shndx (SHN_ABS), st_value, st_size
abbrev pub symbol_fields : ℕ → ℕ → List Field
symbol_fields name_at address = Word name_at ∷ Byte 0x12 ∷ Byte 0 ∷ Half 0xFFF1 ∷ Xword address ∷ Xword 0 ∷ []

-- the entries of 24 bytes of these symbols, whose names stand one after another from this offset of the string table on
abbrev pub symbol_entries : ℕ → List Symbol → List ℕ
symbol_entries name_at [] = []
symbol_entries name_at (symbol ∷ symbols) =
    spelled (symbol_fields name_at symbol.address) ++ symbol_entries (name_at + length symbol.name + 1) symbols

-- the names of these symbols, each with a zero byte behind it
abbrev pub symbol_names : List Symbol → List ℕ
symbol_names [] = []
symbol_names (symbol ∷ symbols) = (symbol.name ++ 0 ∷ []) ++ symbol_names symbols

-- the symbol table: a zero symbol, then these
abbrev pub symbol_table : List Symbol → List ℕ
symbol_table symbols = replicate 24 0 ++ symbol_entries 1 symbols

-- its string table: the empty name, then those of the symbols
abbrev pub string_table : List Symbol → List ℕ
string_table symbols = 0 ∷ symbol_names symbols
