-- Where the entries of a table stand.
use Rattle.std.proofs.Common.{◌≡◌, ◌≤◌, ◌<◌, ◌+◌, ◌-◌, ◌*◌, ◌^◌, ℕ, zero, suc, Bool, true, false, ◌&&◌, List, [], ◌∷◌, ◌++◌, length, Some, None, refl, sym, ap, ◌∙◌, subst, arith, inl, inr, length-append}
use Rattle.std.specs.Prelude.{nat_le, nat_lt, slice_index, if◌then◌else◌}
use Rattle.std.specs.List.{AllByRecursion, slice_get}
use Rattle.std.proofs.lemmas.Bool.{cases_lt}
use Rattle.std.proofs.lemmas.Bool.Decides.{nat_tests}
use Rattle.std.proofs.lemmas.Option.{slice_get_within}
use Rattle.ev_graph.specs.Memory.{Cell, Part, cells_of, or_else, has_flag, Apart}
use Rattle.ev_graph.specs.Places.{StandsIn}
use Rattle.ev_graph.proofs.PlaceLemmas.{get-append, get-push}
use Rattle.elf_read.specs.Elf.{IsSegment, IsApart, AreApart}
use Rattle.code_at.specs.Code.{Program}
use Rattle.jump_table.specs.declared.entries.Table.{Table}
use Rattle.jump_table.specs.Entries.{AreFixed, entry_at, entries_from}
use Rattle.jump_table.specs.Pattern.{IsPattern, compared, copied, bounded, IsIndexed}

-- what each part has, one that stands among them has
part_of : (P : Part → Type 0) (parts : List Part) (part : Part) → AllByRecursion P parts → StandsIn parts part → P part
part_of P [] part all (i, at) = absurd cc
part_of P (one ∷ parts) part all (zero, at) = let same : one ≡ part = cc in subst P same all.0
part_of P (one ∷ parts) part all (suc i, at) = part_of P parts part all.1 (i, at)

-- the bytes of a table end low
pub fixed_low : (parts : List Part) (address size : ℕ) → AllByRecursion IsSegment parts → AreFixed parts address size
    → address + size ≤ 2 ^ 46
fixed_low parts address size segments fixed =
    let segment : IsSegment fixed.0 = part_of IsSegment parts fixed.0 segments fixed.1 in
    omega (arith, segment.low, fixed.2.within)

-- the index register of a pattern may index its table, by fewer than its count
pub pattern_indexed : (program : Program) (table : Table) (target : ℕ) → IsPattern program table target
    → (n : ℕ) × (table.count ≡ n + 1) × IsIndexed program.parts table.base table.index n
pattern_indexed program table target (compared {n = n} first branches jumps) = (n, refl, jumps.indexed)
pattern_indexed program table target (copied {n = n} narrow free first branches copies jumps) = (n, refl, jumps.indexed)
pattern_indexed program table target (bounded {n = n} sets first bounds branches jumps) = (n, refl, jumps.indexed)

-- a table has 1 to 4,096 entries
pub few_entries : (program : Program) (table : Table) (target : ℕ) → IsPattern program table target
    → (0 < table.count) × (table.count ≤ 4096)
few_entries program table target pattern =
    let indexed = pattern_indexed program table target pattern in
    let count : table.count ≡ indexed.0 + 1 = indexed.1 in
    (omega (arith, count), omega (arith, count, indexed.2.few))

-- each entry ends low
pub entry_low : (program : Program) (table : Table) (target k : ℕ) → AllByRecursion IsSegment program.parts
    → IsPattern program table target → k < table.count
    → table.base + 8 * k + 8 ≤ 2 ^ 46
entry_low program table target k segments pattern below =
    let indexed = pattern_indexed program table target pattern in
    let low : table.base + 8 * (indexed.0 + 1) ≤ 2 ^ 46 =
    fixed_low program.parts table.base (8 * (indexed.0 + 1)) segments indexed.2.fixed in
    let count : table.count ≡ indexed.0 + 1 = indexed.1 in
    omega (arith, low, count, below)

-- ---- the entries as a list

pub length-entries_from : (parts : List Part) (base count : ℕ) → length (entries_from parts base count) ≡ count
length-entries_from parts base zero = refl
length-entries_from parts base (suc count) =
    length-append (entries_from parts base count) (entry_at parts base count ∷ []) ∙ omega (arith, length-entries_from parts base count)

pub entries_from-get : (parts : List Part) (base count k : ℕ) → k < count
    → slice_get (entries_from parts base count) k ≡ Some (entry_at parts base k)
entries_from-get parts base zero k below = absurd (omega (arith, below))
entries_from-get parts base (suc count) k below =
    elim (cases_lt k count) [
      | inl less ↦ get-append (entries_from parts base count) (entry_at parts base count ∷ []) k (entry_at parts base k)
          (entries_from-get parts base count k less)
      | inr more ↦ let last : count ≡ k = omega (arith, below, more) in
          subst (λ j. slice_get (entries_from parts base count ++ entry_at parts base count ∷ []) j ≡ Some (entry_at parts base j)) last
          (subst (λ j. slice_get (entries_from parts base count ++ entry_at parts base count ∷ []) j ≡ Some
          (entry_at parts base count)) (length-entries_from parts base count)
          (get-push (entries_from parts base count) (entry_at parts base count)))
    ]

-- an entry stands in the list by its number
pub entries_from-stands : (parts : List Part) (base count e : ℕ) → StandsIn (entries_from parts base count) e
    → (k : ℕ) × (k < count) × (e ≡ entry_at parts base k)
entries_from-stands parts base count e (k, here) =
    let below : k < count = omega (
      arith,
      slice_get_within (entries_from parts base count) k e here,
      length-entries_from parts base
          count,
    ) in
    let there = entries_from-get parts base count k below in
    let same : e ≡ entry_at parts base k = cc in
    (k, below, same)

-- ---- the cells of the entries

covers : (part : Part) (n : ℕ) → part.address ≤ n → n < part.address + part.size
    → (nat_le part.address n && nat_lt n (part.address + part.size)) ≡ true
covers part n from below = grind (arith, nat_tests)

covers_not : (part : Part) (n : ℕ) → (part.address ≤ n → n < part.address + part.size → ⊥)
    → (nat_le part.address n && nat_lt n (part.address + part.size)) ≡ false
covers_not part n off = grind (arith, nat_tests, off)

-- the cell of a part at one of its addresses
abbrev pub cell_at : Part → ℕ → Cell
cell_at part n = record {
  byte = slice_index part.bytes (n - part.address);
  readable = has_flag part.flags 4;
  writable = has_flag part.flags 2;
}

-- where parts are apart, a part's cell is that of all of them
cells_of_part : (parts : List Part) (part : Part) (n : ℕ) → AreApart parts → StandsIn parts part → part.address ≤ n
    → n < part.address + part.size
    → cells_of parts n ≡ Some (cell_at part n)
cells_of_part [] part n apart (i, at) from below = absurd cc
cells_of_part (one ∷ parts) part n apart (zero, at) from below =
    let same : one ≡ part = cc in
    subst (λ (p : Part). cells_of (p ∷ parts) n ≡ Some (cell_at part n)) (sym same)
    (ap (λ (t : Bool). or_else (if t then Some (cell_at part n) else None) (cells_of parts n)) (covers part n from below))
cells_of_part (one ∷ parts) part n apart (suc i, at) from below =
    let off : Apart one.address (one.address + one.size) part.address (part.address + part.size) =
    part_of (IsApart one) parts part apart.0 (i, at) in
    ap (λ (t : Bool). or_else (if t then Some (cell_at one n) else None) (cells_of parts n))
    (covers_not one n (λ low high. off n low high from below))
    ∙ cells_of_part parts part n apart.1 (i, at) from below

-- each byte of fixed ones is there, can be read, and can't be written
pub fixed_cells : (parts : List Part) (address size k : ℕ) → AreApart parts → AreFixed parts address size → k < size
    → (cell : Cell) × (cells_of parts (address + k) ≡ Some cell) × (cell.readable ≡ true) × (cell.writable ≡ false)
fixed_cells parts address size k apart fixed below = (
  cell_at fixed.0 (address + k),
  cells_of_part parts fixed.0 (address + k) apart fixed.1 (omega (arith, fixed.2.from)) (omega (arith, fixed.2.within, below)),
  fixed.2.readable,
  fixed.2.unwritten,
)
