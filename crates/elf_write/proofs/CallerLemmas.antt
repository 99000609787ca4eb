-- What a caller of this crate cites: first what makes an image of an input, then what an image's file says.
use Rattle.std.proofs.Common.{◌≡◌, ◌≢◌, ◌⊎◌, ℕ, ◌+◌, ◌-◌, ◌%◌, ◌^◌, ◌<◌, ◌≤◌, ◌==◌, Bool, true, false, List, [], ◌∷◌, ◌++◌, length, map, arith, sym, ◌∙◌, ap, refl, subst, inl, inr, ⊎_elim}
use Rattle.std.specs.Prelude.{◌&&◌, bit_and, min, nat_le, nat_lt, slice_index, Option, Some, None, if◌then◌else◌}
use Rattle.std.specs.Int.{bit_at}
use Rattle.std.specs.List.{AllByRecursion}
use Rattle.std.proofs.lemmas.Bool.Decides.{eqb_tells}
use Rattle.std.proofs.lemmas.List.{length-map}
use Rattle.std.proofs.lemmas.Nat.{and_assoc}
use Rattle.std.proofs.lemmas.Nat.Bits.{bit_at_and, bit_at-lt}
use Rattle.ev_graph.specs.declared.execution.Stack.{Stack}
use Rattle.ev_graph.specs.Memory.{Cell, Part, cell_in, cells_of, or_else, has_flag, Fits, IsOffStacks}
use Rattle.elf_read.specs.Elf.{IsSegment, IsApart, AreApart, IsProgram}
use Rattle.elf_read.specs.ElfFile.{segments_of}
use Rattle.elf_write.specs.declared.image.Image.{Image}
use Rattle.elf_write.specs.Image.{image_part, image_cells, EndBefore, IsCodeAddress, IsKept, IsImage, kept}
use Rattle.elf_write.specs.ImageFile.{offset_after}
use Rattle.elf_write.specs.Written.{IsFileOf}
use Rattle.elf_write.proofs.Cells.{cell_uncovered}
use Rattle.elf_write.proofs.Kept.{kept_empty, kept_some}
use Rattle.elf_write.proofs.Readable.{kept_end, code_low}

-- a part as it is kept
abbrev pub kept_part : Part → Part
kept_part part = record part { flags = bit_and part.flags 6 }

-- a part is passed over or kept
pub kept_cases : (part : Part) (parts : List Part) → ((part.size ≡ 0) × (kept (part ∷ parts) ≡ kept parts)) ⊎ ((0 < part.size) × (kept (part ∷ parts) ≡ kept_part part ∷ kept parts))
kept_cases part parts =
    ⊎_elim (λ (none : (part.size == 0 ≡ true) × (part.size ≡ 0)). inl (none.1, kept_empty parts part none.1))
    (λ (some : (part.size == 0 ≡ false) × (part.size ≢ 0)). inr (omega (arith, some.1), kept_some parts part some.1)) (eqb_tells part.size 0)

-- what holds of each part as it is kept holds of what is kept
pub all_kept : (P : Part → Type 0) (parts : List Part) → AllByRecursion (λ part. 0 < part.size → P (kept_part part)) parts → AllByRecursion P (kept parts)
all_kept P [] each = tt
all_kept P (part ∷ parts) each =
    let rest = all_kept P parts each.1 in
    ⊎_elim (λ (none : (part.size ≡ 0) × (kept (part ∷ parts) ≡ kept parts)). subst (AllByRecursion P) (sym none.1) rest)
    (λ (some : (0 < part.size) × (kept (part ∷ parts) ≡ kept_part part ∷ kept parts)). subst (AllByRecursion P) (sym some.1) (each.0 some.0, rest)) (kept_cases part parts)

-- there are no more kept parts than parts
pub length-kept : (parts : List Part) → length (kept parts) ≤ length parts
length-kept [] = omega arith
length-kept (part ∷ parts) =
    let rest = length-kept parts in
    ⊎_elim (λ (none : (part.size ≡ 0) × (kept (part ∷ parts) ≡ kept parts)). omega (arith, ap length none.1, rest))
    (λ (some : (0 < part.size) × (kept (part ∷ parts) ≡ kept_part part ∷ kept parts)). omega (arith, ap length some.1, rest)) (kept_cases part parts)

-- the flags that are kept stay when they are kept again
kept_twice : (flags : ℕ) → bit_and (bit_and flags 6) 6 ≡ bit_and flags 6
kept_twice flags = and_assoc 6 flags 6

-- the kept segments of an accepted file are segments of an image
pub kept_are : (parts : List Part) → AllByRecursion IsSegment parts → AllByRecursion IsKept (kept parts)
kept_are parts are = all_kept IsKept parts (each parts are)
  where
    each : (parts : List Part) → AllByRecursion IsSegment parts → AllByRecursion (λ part. 0 < part.size → IsKept (kept_part part)) parts
    each [] are = tt
    each (part ∷ parts) are = ((λ some. record { some = some; filled = are.0.filled; data_alone = kept_twice part.flags; low = are.0.low }), each parts are.1)

-- they are apart
pub kept_apart : (parts : List Part) → AreApart parts → AreApart (kept parts)
kept_apart [] apart = tt
kept_apart (part ∷ parts) apart =
    let rest = kept_apart parts apart.1 in
    ⊎_elim (λ (none : (part.size ≡ 0) × (kept (part ∷ parts) ≡ kept parts)). subst AreApart (sym none.1) rest)
    (λ (some : (0 < part.size) × (kept (part ∷ parts) ≡ kept_part part ∷ kept parts)).
    subst AreApart (sym some.1) (all_kept (IsApart (kept_part part)) parts (each parts apart.0), rest)) (kept_cases part parts)
  where
    each : (others : List Part) → AllByRecursion (IsApart part) others → AllByRecursion (λ other. 0 < other.size → IsApart (kept_part part) (kept_part other)) others
    each [] off = tt
    each (other ∷ others) off = ((λ some. off.0), each others off.1)

-- and they end at 2 ^ 46 at most
pub kept_end_before : (parts : List Part) → AllByRecursion IsSegment parts → EndBefore (2 ^ 46) (kept parts)
kept_end_before parts are = kept_end (kept parts) (kept_are parts are)

-- an image with what is kept of an accepted file, with as many threads, and with its code behind, may be written
pub image_of_program : (image : Image) (parts : List Part) (entries : List ℕ) → IsProgram parts entries → map image_part image.segments ≡ kept parts
    → length image.threads ≡ length entries → IsCodeAddress (map image_part image.segments) image.code_address → IsImage image
image_of_program image parts entries program same count behind =
    let few = length-kept parts in
    let each : length (map image_part image.segments) ≡ length image.segments = simp length-map in
    let kept_count : length (map image_part image.segments) ≡ length (kept parts) = ap length same in
    record {
      some_thread = omega (arith, count, program.some_thread);
      few_threads = omega (arith, count, program.threads);
      few_segments = omega (arith, each, kept_count, few, program.few);
      segments = subst (AllByRecursion IsKept) (sym same) (kept_are parts program.segments);
      apart = subst AreApart (sym same) (kept_apart parts program.apart);
      behind = behind;
    }

-- the code of an image stands at 2 ^ 46 at most
pub code_address_le : (image : Image) → IsImage image → image.code_address ≤ 2 ^ 46
code_address_le image is = code_low (map image_part image.segments) image.code_address is.segments is.behind

-- the flags R and W are kept
kept_bit : (flags k : ℕ) → bit_at 6 k ≡ 1 → bit_at (bit_and flags 6) k ≡ bit_at flags k
kept_bit flags k set = bit_at_and flags 6 k ∙ ap (min (bit_at flags k)) set ∙ least (bit_at flags k) (bit_at-lt flags k)
  where
    least : (b : ℕ) → b < 2 → min b 1 ≡ b
    least b low = omega (arith, low)

kept_readable : (flags : ℕ) → has_flag (bit_and flags 6) 4 ≡ has_flag flags 4
kept_readable flags = ap (λ k. k == 1) (kept_bit flags 2 refl)

kept_writable : (flags : ℕ) → has_flag (bit_and flags 6) 2 ≡ has_flag flags 2
kept_writable flags = ap (λ k. k == 1) (kept_bit flags 1 refl)

-- a kept part has the part's cells
pub kept_cell : (part : Part) (n : ℕ) → cell_in (kept_part part) n ≡ cell_in part n
kept_cell part n =
    ap (λ (r : Bool). seen r (has_flag (bit_and part.flags 6) 2)) (kept_readable part.flags) ∙ ap (seen (has_flag part.flags 4)) (kept_writable part.flags)
  where
    seen : Bool → Bool → Option Cell
    seen readable writable =
        if nat_le part.address n && nat_lt n (part.address + part.size)
        then Some (record { byte = slice_index part.bytes (n - part.address); readable = readable; writable = writable })
        else None

empty_cell : (part : Part) (n : ℕ) → part.size ≡ 0 → cell_in part n ≡ None
empty_cell part n none = cell_uncovered part n (λ there. omega (arith, none, there.0, there.1))

-- what is kept of parts is the same memory: the same bytes, and the same may be read and written
pub kept_cells : (parts : List Part) (n : ℕ) → cells_of (kept parts) n ≡ cells_of parts n
kept_cells [] n = refl
kept_cells (part ∷ parts) n =
    let rest = kept_cells parts n in
    ⊎_elim (λ (none : (part.size ≡ 0) × (kept (part ∷ parts) ≡ kept parts)).
    ap (λ ps. cells_of ps n) none.1 ∙ rest ∙ sym (ap (λ o. or_else o (cells_of parts n)) (empty_cell part n none.0)))
    (λ (some : (0 < part.size) × (kept (part ∷ parts) ≡ kept_part part ∷ kept parts)).
    ap (λ ps. cells_of ps n) some.1 ∙ ap (λ o. or_else o (cells_of (kept parts) n)) (kept_cell part n) ∙ ap (or_else (cell_in part n)) rest) (kept_cases part parts)

-- stacks that are off what is kept of parts, and of more, are off the parts
pub off_kept : (parts rest : List Part) (stacks : List Stack) → AllByRecursion (IsOffStacks stacks) (kept parts ++ rest) → AllByRecursion (IsOffStacks stacks) parts
off_kept [] rest stacks off = tt
off_kept (part ∷ parts) rest stacks off =
    ⊎_elim (λ (none : (part.size ≡ 0) × (kept (part ∷ parts) ≡ kept parts)).
    (off_empty stacks none.0, off_kept parts rest stacks (subst (λ ps. AllByRecursion (IsOffStacks stacks) (ps ++ rest)) none.1 off)))
    (λ (some : (0 < part.size) × (kept (part ∷ parts) ≡ kept_part part ∷ kept parts)).
    let here = subst (λ ps. AllByRecursion (IsOffStacks stacks) (ps ++ rest)) some.1 off in
    (here.0, off_kept parts rest stacks here.1)) (kept_cases part parts)
  where
    off_empty : (stacks : List Stack) → part.size ≡ 0 → IsOffStacks stacks part
    off_empty [] none = tt
    off_empty (stack ∷ stacks) none = ((λ n low high lo hi. omega (arith, none, low, high)), off_empty stacks none)

-- a layout that fits what is kept, and more, fits the parts
pub fits_kept : (parts rest : List Part) (threads others : ℕ) (stacks : List Stack) → threads ≡ others → Fits (kept parts ++ rest) threads stacks → Fits parts others stacks
fits_kept parts rest threads others stacks same fits = record {
  one_each = fits.one_each ∙ same;
  well_placed = fits.well_placed;
  apart = fits.apart;
  off_parts = off_kept parts rest stacks fits.off_parts;
}

-- the offsets of an image's file: each is not below the end, equals the address modulo 4,096, and is the least such
pub offset_le : (end address : ℕ) → end ≤ offset_after end address
offset_le end address = omega arith

pub offset_matches : (end address : ℕ) → offset_after end address % 4096 ≡ address % 4096
offset_matches end address = omega arith

pub offset_least : (end address other : ℕ) → end ≤ other → other % 4096 ≡ address % 4096 → offset_after end address ≤ other
offset_least end address other behind matches = omega (arith, behind, matches)

-- the memory that an image tells is that of its file
pub image_cells-segments : (image : Image) (file : List ℕ) (n : ℕ) → IsFileOf image file → image_cells image n ≡ cells_of (segments_of file) n
image_cells-segments image file n is = ap (λ (parts : List Part). cells_of parts n) (sym is.segments)
