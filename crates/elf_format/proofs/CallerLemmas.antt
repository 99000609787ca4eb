-- What a caller of this crate cites: how long the pieces are, and how pieces that were appended come together.
use Rattle.std.proofs.Common.{◌≡◌, ℕ, ◌+◌, ◌*◌, ◌≤◌, suc, List, [], ◌∷◌, ◌++◌, length, arith, refl, append_assoc, length-append}
use Rattle.std.specs.Prelude.{replicate}
use Rattle.std.specs.List.{AllByRecursion}
use Rattle.std.proofs.Math.Nat.{mul-suc}
use Rattle.std.proofs.lemmas.List.{length-replicate}
use Rattle.elf_format.specs.declared.symbol.Symbol.{Symbol}
use Rattle.elf_format.specs.Bytes.{padded, rounded_up}
use Rattle.elf_format.specs.Fields.{spelled}
use Rattle.elf_format.specs.Symbols.{symbol_fields, symbol_entries, symbol_names, symbol_table}

-- bytes are padded up to the length asked for
pub length-padded : (bytes : List ℕ) (to : ℕ) → length bytes ≤ to → length (padded bytes to) ≡ to
length-padded bytes to low = simp (length-append, length-replicate) (omega arith)

-- the next multiple of 8 is not below
pub rounded_up_le : (n : ℕ) → n ≤ rounded_up 8 n
rounded_up_le n = omega arith

-- how long the entries of symbols are
pub length-symbol_entries : (symbols : List Symbol) (at : ℕ) → length (symbol_entries at symbols) ≡ 24 * length symbols
length-symbol_entries [] at = refl
length-symbol_entries (symbol ∷ symbols) at =
    let rest = length-symbol_entries symbols (at + length symbol.name + 1) in
    omega (arith, length-append (spelled (symbol_fields at symbol.address)) (symbol_entries (at + length symbol.name + 1) symbols), rest)

-- how long the table of symbols is
pub length-symbol_table : (symbols : List Symbol) → length (symbol_table symbols) ≡ 24 + 24 * length symbols
length-symbol_table symbols =
    let long = length-symbol_entries symbols 1 in
    omega (arith, length-append (replicate 24 0) (symbol_entries 1 symbols), long)

-- names of at most `most` bytes take at most one more each
pub length-symbol_names : (most : ℕ) (symbols : List Symbol) → AllByRecursion (λ (symbol : Symbol). length symbol.name ≤ most) symbols
    → length (symbol_names symbols) ≤ (most + 1) * length symbols
length-symbol_names most [] short = omega arith
length-symbol_names most (symbol ∷ symbols) short =
    let rest = length-symbol_names most symbols short.1 in
    let more : (most + 1) * suc (length symbols) ≡ (most + 1) * length symbols + (most + 1) = mul-suc (most + 1) (length symbols) in
    simp length-append (omega (arith, short.0, rest, more))

-- pieces that are appended one after another
pub appended_3 : (old a b c first second third : List ℕ) → first ≡ old ++ a → second ≡ first ++ b → third ≡ second ++ c → third ≡ old ++ (a ++ (b ++ c))
appended_3 old a b c first second third one two three = rw (three, two, one) (simp append_assoc)

pub appended_4 : (old a b c d first second third fourth : List ℕ)
    → first ≡ old ++ a → second ≡ first ++ b → third ≡ second ++ c → fourth ≡ third ++ d → fourth ≡ old ++ (a ++ (b ++ (c ++ d)))
appended_4 old a b c d first second third fourth one two three four = rw (four, three, two, one) (simp append_assoc)
