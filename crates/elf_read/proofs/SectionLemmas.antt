-- The sections that are still to be looked at.
use Rattle.std.proofs.Common.{◌≡◌, ◌≢◌, ◌≤◌, ◌<◌, ◌+◌, ◌-◌, ℕ, suc, List, Option, Some, None, arith, refl, eq-eqb}
use Rattle.std.proofs.lemmas.Bool.{ne_eqb}
use Rattle.elf_read.specs.Fields.{e_shnum, section_header_at, sh_type}
use Rattle.elf_read.specs.ElfFile.{symbol_section_from}

-- the first symbol table among the sections from this one on
abbrev pub symbol_section_left : List ℕ → ℕ → Option ℕ
symbol_section_left bytes n = symbol_section_from bytes (section_header_at bytes n) (e_shnum bytes - n)

pub section_found : (bytes : List ℕ) (n : ℕ) → n < e_shnum bytes → sh_type bytes (section_header_at bytes n) ≡ 2
    → symbol_section_left bytes n ≡ Some (section_header_at bytes n)
section_found bytes n low kind =
    let e : e_shnum bytes - n ≡ suc (e_shnum bytes - (n + 1)) = omega arith in
    let test = eq-eqb (sh_type bytes (section_header_at bytes n)) 2 kind in
    rw e (rw test refl)

pub section_passed : (bytes : List ℕ) (n : ℕ) → n < e_shnum bytes → sh_type bytes (section_header_at bytes n) ≢ 2
    → symbol_section_left bytes n ≡ symbol_section_left bytes (n + 1)
section_passed bytes n low other =
    let e : e_shnum bytes - n ≡ suc (e_shnum bytes - (n + 1)) = omega arith in
    let next : section_header_at bytes (n + 1) ≡ section_header_at bytes n + 64 = omega arith in
    let test = ne_eqb (sh_type bytes (section_header_at bytes n)) 2 other in
    rw (next, e) (rw test refl)

pub section_none : (bytes : List ℕ) (n : ℕ) → e_shnum bytes ≤ n → symbol_section_left bytes n ≡ None
section_none bytes n past = let e : e_shnum bytes - n ≡ 0 = omega arith in rw e refl
