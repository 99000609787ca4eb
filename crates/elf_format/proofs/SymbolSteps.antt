-- Steps of the loops that write symbols.
use Rattle.std.proofs.Common.{◌≡◌, ℕ, ◌+◌, ◌<◌, List, ◌∷◌, ◌++◌, length, get_or, drop, arith, append_assoc, length-append, drop-cons, add-one, refl}
use Rattle.elf_format.specs.declared.symbol.Symbol.{Symbol}
use Rattle.elf_format.specs.Fields.{spelled}
use Rattle.elf_format.specs.Symbols.{symbol_fields, symbol_entries, symbol_names}

-- the list from an index on begins with the element there
pub drop_at : {A : Type 0} (xs : List A) (i : ℕ) (x : A) → i < length xs → x ≡ get_or xs i x → drop i xs ≡ x ∷ drop (i + 1) xs
drop_at xs i x within here = rw (add-one, drop-cons xs i x) (rw (← here) refl)

-- one more entry is written
pub entries_step : (out next all : List ℕ) (name_at n i : ℕ) (symbols : List Symbol) (symbol : Symbol)
    → drop i symbols ≡ symbol ∷ drop (i + 1) symbols → n ≡ length symbol.name → next ≡ out ++ spelled (symbol_fields name_at symbol.address)
    → out ++ symbol_entries name_at (drop i symbols) ≡ all → next ++ symbol_entries (name_at + n + 1) (drop (i + 1) symbols) ≡ all
entries_step out next all name_at n i symbols symbol here size written whole =
    rw (size, written, append_assoc) (rw here at whole)

-- and its name is passed
pub names_step : (total name_at n i : ℕ) (symbols : List Symbol) (symbol : Symbol)
    → drop i symbols ≡ symbol ∷ drop (i + 1) symbols → n ≡ length symbol.name
    → name_at + length (symbol_names (drop i symbols)) ≡ total → name_at + n + 1 + length (symbol_names (drop (i + 1) symbols)) ≡ total
names_step total name_at n i symbols symbol here size whole =
    let passed = simp length-append at (rw here at whole) in omega (arith, size, passed)
