-- The listed name of a symbol.
use Rattle.std.proofs.Common.{◌≡◌, ℕ, Bool, true, false, List, take, drop, Option, Some, None, refl, sym, ◌∙◌, subst, inl, inr, ⊎_elim}
use Rattle.std.specs.Prelude.{◌&&◌, IfSome, IfNone}
use Rattle.std.specs.Str.{bytes_eq}
use Rattle.std.proofs.lemmas.Bool.{cases_Bool, false≢true}
use Rattle.std.proofs.lemmas.Slice.Eq.{bytes_eq-Decides}
use Rattle.elf_read.specs.declared.listed.Listed.{Listed}
use Rattle.elf_read.specs.declared.listed.Listed.TheVariants.{Input, Output, Thread}
use Rattle.elf_read.specs.Fields.{st_name}
use Rattle.elf_read.specs.ElfFile.{name_at, is_global, is_symbol}
use Rattle.elf_read.specs.FileFaults.{IsListedName}
use Rattle.elf_read.specs.Listed.{name_of, IsListed}
use Rattle.elf_read.proofs.NameLemmas.{up_to_zero, listed_short, window_is, window_was}

both : (a b : Bool) → a ≡ true → b ≡ true → (a && b) ≡ true
both a b left right = rw (left, right) refl

second : (a b : Bool) → (a && b) ≡ true → b ≡ true
second true b e = e
second false b e = absurd (false≢true e)

-- a symbol that is defined and GLOBAL is that of its name, and of no other
pub symbol_told : (name symbols strings : List ℕ) (at : ℕ) → is_global symbols at ≡ true → name_at strings (st_name symbols at) ≡ name → is_symbol name symbols strings at ≡ true
symbol_told name symbols strings at global is =
    both (is_global symbols at) (bytes_eq (name_at strings (st_name symbols at)) name) global ((bytes_eq-Decides (name_at strings (st_name symbols at)) name).1 is)

pub symbol_named : (name symbols strings : List ℕ) (at : ℕ) → is_symbol name symbols strings at ≡ true → name_at strings (st_name symbols at) ≡ name
symbol_named name symbols strings at told =
    (bytes_eq-Decides (name_at strings (st_name symbols at)) name).0 (second (is_global symbols at) (bytes_eq (name_at strings (st_name symbols at)) name) told)

pub named_listed : (listed : Listed) → IsListed listed → IsListedName (name_of listed)
named_listed Input low = inl refl
named_listed Output low = inr (inl refl)
named_listed (Thread k) low = inr (inr (k, low, refl))

-- where the first bytes of its name are no listed name, it has none
pub unlisted : (o : Option Listed) (window symbols strings : List ℕ) (at : ℕ) → window ≡ up_to_zero (take 11 (drop (st_name symbols at) strings))
    → IfNone o (IsListedName window → ⊥) → IfNone o ((name : List ℕ) → IsListedName name → is_symbol name symbols strings at ≡ false)
unlisted (Some found) window symbols strings at is free = tt
unlisted None window symbols strings at is free = λ name listed.
    ⊎_elim (λ (yes : is_symbol name symbols strings at ≡ true).
    let same : window ≡ name = is ∙ window_is (drop (st_name symbols at) strings) name (listed_short name listed) (symbol_named name symbols strings at yes) in
    absurd (free (subst IsListedName (sym same) listed)))
    (λ (other : is_symbol name symbols strings at ≡ false). other) (cases_Bool (is_symbol name symbols strings at))

-- and where they are one, it has that
pub told : (o : Option Listed) (window symbols strings : List ℕ) (at : ℕ) → is_global symbols at ≡ true → window ≡ up_to_zero (take 11 (drop (st_name symbols at) strings))
    → IfSome o (λ found. IsListed found × (window ≡ name_of found)) → IfSome o (λ found. IsListed found × (is_symbol (name_of found) symbols strings at ≡ true))
told None window symbols strings at global is named = tt
told (Some found) window symbols strings at global is named =
    let short = listed_short (name_of found) (named_listed found named.0) in
    (named.0, symbol_told (name_of found) symbols strings at global (window_was (drop (st_name symbols at) strings) (name_of found) short (sym is ∙ named.1)))
