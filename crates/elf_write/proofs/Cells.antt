-- What is seen of an image's memory at an address.
use Rattle.std.proofs.Common.{◌≡◌, ℕ, zero, suc, ◌+◌, ◌-◌, ◌*◌, ◌/◌, ◌%◌, ◌<◌, ◌≤◌, Bool, true, false, List, [], ◌∷◌, ◌++◌, length, map, arith, sym, ◌∙◌, ap, refl}
use Rattle.std.specs.Prelude.{◌&&◌, nat_le, nat_lt, slice_index, flat_map, Option, Some, None, if◌then◌else◌}
use Rattle.std.proofs.lemmas.Bool.Decides.{nat_tests}
use Rattle.byteorder.specs.Endian.{little_bytes}
use Rattle.ev_graph.specs.Memory.{Cell, Part, cell_in, cells_of, or_else, permits, has_flag}
use Rattle.elf_write.specs.declared.image.Image.{Image}
use Rattle.elf_write.specs.declared.image.ImageSegment.{ImageSegment}
use Rattle.elf_write.specs.Image.{image_part, code_part, image_cells}

or_else-assoc : (a b c : Option Cell) → or_else (or_else a b) c ≡ or_else a (or_else b c)
or_else-assoc None b c = refl
or_else-assoc (Some cell) b c = refl

-- the cells of parts and of others behind them
pub cells_of-append : (ps qs : List Part) (n : ℕ) → cells_of (ps ++ qs) n ≡ or_else (cells_of ps n) (cells_of qs n)
cells_of-append [] qs n = refl
cells_of-append (p ∷ ps) qs n =
    ap (λ o. or_else (cell_in p n) o) (cells_of-append ps qs n) ∙ sym (or_else-assoc (cell_in p n) (cells_of ps n) (cells_of qs n))

is_covered : (low n high : ℕ) → low ≤ n → n < high → (nat_le low n && nat_lt n high) ≡ true
is_covered low n high from to = grind (arith, nat_tests)

is_uncovered : (low n high : ℕ) → ((low ≤ n) × (n < high) → ⊥) → (nat_le low n && nat_lt n high) ≡ false
is_uncovered low n high off = grind (arith, nat_tests, off)

-- the cell of a part at one of its addresses
abbrev pub cell_at : Part → ℕ → Cell
cell_at part n = record { byte = slice_index part.bytes (n - part.address); readable = has_flag part.flags 4; writable = has_flag part.flags 2 }

pub cell_covered : (part : Part) (n : ℕ) → part.address ≤ n → n < part.address + part.size → cell_in part n ≡ Some (cell_at part n)
cell_covered part n from to =
    ap (λ (t : Bool). if t then Some (cell_at part n) else None) (is_covered part.address n (part.address + part.size) from to)

pub cell_uncovered : (part : Part) (n : ℕ) → ((part.address ≤ n) × (n < part.address + part.size) → ⊥) → cell_in part n ≡ None
cell_uncovered part n off =
    ap (λ (t : Bool). if t then Some (cell_at part n) else None) (is_uncovered part.address n (part.address + part.size) off)

or_none : (o : Option Cell) → or_else o None ≡ o
or_none None = refl
or_none (Some cell) = refl

-- an address in a segment
pub seen_segment : (image : Image) (segment : ImageSegment) (n : ℕ) → cells_of (map image_part image.segments) n ≡ cell_in (image_part segment) n
    → segment.address ≤ n → n < segment.address + segment.size → image_cells image n ≡ Some (cell_at (image_part segment) n)
seen_segment image segment n here from to =
    let code = code_part image.code_address image.words in
    cells_of-append (map image_part image.segments) (code ∷ []) n
    ∙ ap (λ o. or_else o (cells_of (code ∷ []) n)) (here ∙ cell_covered (image_part segment) n from to)

-- an address in no segment
pub seen_behind : (image : Image) (n : ℕ) → cells_of (map image_part image.segments) n ≡ None → image_cells image n ≡ cell_in (code_part image.code_address image.words) n
seen_behind image n none =
    let code = code_part image.code_address image.words in
    cells_of-append (map image_part image.segments) (code ∷ []) n
    ∙ ap (λ o. or_else o (cells_of (code ∷ []) n)) none ∙ or_none (cell_in code n)

-- code may be neither read nor written
refused_by : (t write : Bool) (byte : ℕ) → permits write (if t then Some (record { byte = byte; readable = false; writable = false }) else None) ≡ false
refused_by true true byte = refl
refused_by true false byte = refl
refused_by false write byte = refl

pub code_refused : (image : Image) (write : Bool) (n : ℕ) → cells_of (map image_part image.segments) n ≡ None → permits write (image_cells image n) ≡ false
code_refused image write n none =
    ap (permits write) (seen_behind image n none)
    ∙ refused_by (nat_le image.code_address n && nat_lt n (image.code_address + 4 * length image.words)) write
    (slice_index (flat_map (little_bytes 4) image.words) (n - image.code_address))

-- what a segment permits
pub segment_permits : (segment : ImageSegment) (write : Bool) (n : ℕ)
    → permits write (Some (cell_at (image_part segment) n)) ≡ (if write then has_flag segment.flags 2 else has_flag segment.flags 4)
segment_permits segment true n = refl
segment_permits segment false n = refl

-- a byte of the code is one of a word's four
none_left : (n : ℕ) → slice_index (little_bytes 4 0) (n % 4) ≡ 0
none_left n = four_zeros (n % 4) where
  four_zeros : (k : ℕ) → slice_index (little_bytes 4 0) k ≡ 0
  four_zeros zero = refl
  four_zeros (suc zero) = refl
  four_zeros (suc (suc zero)) = refl
  four_zeros (suc (suc (suc zero))) = refl
  four_zeros (suc (suc (suc (suc k)))) = refl

pub code_byte_is : (words : List ℕ) (n : ℕ) → slice_index (flat_map (little_bytes 4) words) n ≡ slice_index (little_bytes 4 (slice_index words (n / 4))) (n % 4)
code_byte_is [] n = sym (none_left n)
code_byte_is (word ∷ words) zero = refl
code_byte_is (word ∷ words) (suc zero) = refl
code_byte_is (word ∷ words) (suc (suc zero)) = refl
code_byte_is (word ∷ words) (suc (suc (suc zero))) = refl
code_byte_is (word ∷ words) (suc (suc (suc (suc n)))) =
    let next : suc (suc (suc (suc n))) / 4 ≡ suc (n / 4) = omega arith in
    let same : suc (suc (suc (suc n))) % 4 ≡ n % 4 = omega arith in
    code_byte_is words n
    ∙ sym (ap (λ k. slice_index (little_bytes 4 (slice_index (word ∷ words) k)) (suc (suc (suc (suc n))) % 4)) next
    ∙ ap (λ k. slice_index (little_bytes 4 (slice_index words (n / 4))) k) same)

-- a byte of spelled words, as it is read
pub code_byte_read : (held words spelled : List ℕ) (n : ℕ) → held ≡ words → spelled ≡ little_bytes 4 (slice_index held (n / 4))
    → slice_index spelled (n % 4) ≡ slice_index (flat_map (little_bytes 4) words) n
code_byte_read held words spelled n same is =
    ap (λ l. slice_index l (n % 4)) is ∙ ap (λ l. slice_index (little_bytes 4 (slice_index l (n / 4))) (n % 4)) same ∙ sym (code_byte_is words n)
