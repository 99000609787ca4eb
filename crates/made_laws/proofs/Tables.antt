-- The table of the two threads' symbols, and that of their names.
use Rattle.std.proofs.Common.{◌≡◌, ℕ, zero, suc, Bool, true, false, List, [], ◌∷◌, ◌++◌, length, arith, refl, sym, ◌∙◌, ap}
use Rattle.std.specs.Prelude.{slice_index, ◌&&◌, codes, decimal}
use Rattle.std.specs.Str.{bytes_eq}
use Rattle.std.proofs.lemmas.Bool.{false≢true}
use Rattle.std.proofs.lemmas.Slice.Eq.{bytes_eq-Decides}
use Rattle.std.proofs.lemmas.Fmt.{decimal_digit}
use Rattle.elf_format.specs.Symbols.{symbol_table, string_table}
use Rattle.elf_read.specs.Bytes.{number_at}
use Rattle.elf_read.specs.Fields.{st_name}
use Rattle.elf_read.specs.ElfFile.{name_at, is_global, is_symbol, symbol_count}
use Rattle.elf_read.specs.FileFaults.{IsName, HasNameless, HasNoThread, RepeatsName}
use Rattle.gen_input.specs.Made.{made_symbols}

-- the table
abbrev pub table : List ℕ
table = symbol_table made_symbols

-- its names
abbrev pub names : List ℕ
names = string_table made_symbols

first_global : is_global table 0 ≡ false
unfolding number_at
first_global = refl

first_named : st_name table 24 ≡ 1
unfolding number_at
first_named = refl

second_named : st_name table 48 ≡ 10
unfolding number_at
second_named = refl

count : symbol_count table ≡ 3
count = refl

pub size : length names ≡ 19
size = refl

name_1 : IsName names (st_name table 24)
name_1 = let at = first_named in let all = size in (9, omega (arith, at), omega (arith, all), refl)

name_2 : IsName names (st_name table 48)
name_2 = let at = second_named in let all = size in (18, omega (arith, at), omega (arith, all), refl)

-- each global symbol has a name
pub all_named : HasNameless table names → ⊥
all_named (zero, low, global, none) = false≢true (sym first_global ∙ global)
all_named (suc zero, low, global, none) = none name_1
all_named (suc (suc zero), low, global, none) = none name_2
all_named (suc (suc (suc i)), low, global, none) = let all = count in absurd (omega (arith, all, low))

zero_digit : decimal 0 ≡ 48 ∷ []
zero_digit = decimal_digit 0 (omega arith)

-- the first symbol is that of thread 0
thread_there : is_symbol (codes "thread_" ++ (48 ∷ [])) table names 24 ≡ true
unfolding number_at
thread_there = refl

pub has_thread : HasNoThread table names → ⊥
has_thread none =
    let all = count in
    none 1 (omega (arith, all), ap (λ ds. is_symbol (codes "thread_" ++ ds) table names 24) zero_digit ∙ thread_there)

first_of : (a b : Bool) → (a && b) ≡ true → a ≡ true
first_of true b e = refl
first_of false b e = absurd (false≢true e)

second_of : (a b : Bool) → (a && b) ≡ true → b ≡ true
second_of true b e = e
second_of false b e = absurd (false≢true e)

-- the symbol there has the name
named : (name : List ℕ) (at : ℕ) → is_symbol name table names at ≡ true → name_at names (st_name table at) ≡ name
named name at told =
    (bytes_eq-Decides (name_at names (st_name table at)) name).0 (second_of (is_global table at) (bytes_eq (name_at names (st_name table at)) name) told)

letter_1 : slice_index (name_at names (st_name table 24)) 7 ≡ 48
unfolding number_at
letter_1 = refl

letter_2 : slice_index (name_at names (st_name table 48)) 7 ≡ 49
unfolding number_at
letter_2 = refl

-- the two have different names
apart : (name : List ℕ) → is_symbol name table names 24 ≡ true → is_symbol name table names 48 ≡ true → ⊥
apart name one two =
    let same = ap (λ (l : List ℕ). slice_index l 7) (named name 24 one ∙ sym (named name 48 two)) in
    omega (arith, same, letter_1, letter_2)

first_unnamed : (name : List ℕ) → is_symbol name table names 0 ≡ true → ⊥
first_unnamed name told =
    false≢true (sym first_global ∙ first_of (is_global table 0) (bytes_eq (name_at names (st_name table 0)) name) told)

-- no listed name is that of two symbols
pub once_named : (i : ℕ) → RepeatsName table names i → ⊥
once_named zero (name, listed, here, (j, less, there)) = absurd (omega (arith, less))
once_named (suc zero) (name, listed, here, (zero, less, there)) = first_unnamed name there.1
once_named (suc zero) (name, listed, here, (suc j, less, there)) = absurd (omega (arith, less))
once_named (suc (suc zero)) (name, listed, here, (zero, less, there)) = first_unnamed name there.1
once_named (suc (suc zero)) (name, listed, here, (suc zero, less, there)) = apart name there.1 here.1
once_named (suc (suc zero)) (name, listed, here, (suc (suc j), less, there)) = absurd (omega (arith, less))
once_named (suc (suc (suc i))) (name, listed, here, rest) = let all = count in absurd (omega (arith, all, here.0))
