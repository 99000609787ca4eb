-- The spelling of instructions as a relation, and the decoder's answers in its terms.
use Rattle.std.specs.Prelude.{◌≡◌, ℕ, ◌+◌, ◌/◌, ◌%◌, ◌<◌, ◌≤◌, Bool, true, false, not, ◌&&◌, ◌==◌, if◌then◌else◌, List, [], ◌∷◌, ◌++◌, length, take, slice_index, ◌⊎◌, Option, Some, None, Result, Ok, Err, IfSome}
use Rattle.std.specs.List.{AllByRecursion}
use Rattle.x64_syntax.specs.declared.instr.Instr.{Instr}
use Rattle.x64_decode.specs.declared.decode.DecodeFault.{DecodeFault}
use Rattle.x64_decode.specs.declared.decode.DecodeFault.TheVariants.{Cut, Unknown, TooLong}
use Rattle.x64_decode.specs.declared.row.Before.{Before}
use Rattle.x64_decode.specs.declared.row.Before.TheVariants as before
use Rattle.x64_decode.specs.declared.row.Code.{Code}
use Rattle.x64_decode.specs.declared.row.Code.TheVariants as code
use Rattle.x64_decode.specs.declared.row.Front.{Front}
use Rattle.x64_decode.specs.declared.row.Lock.{Lock}
use Rattle.x64_decode.specs.declared.row.Lock.TheVariants as lock
use Rattle.x64_decode.specs.declared.row.Place.{Place}
use Rattle.x64_decode.specs.declared.row.Place.TheVariants as place
use Rattle.x64_decode.specs.declared.row.Row.{Row}
use Rattle.x64_decode.specs.Bytes.{IsByte, IsPrefix, IsRex}
use Rattle.x64_decode.specs.Fronts.{front_of, rex_bit, rex_bytes}
use Rattle.x64_decode.specs.Meaning.{meaning}
use Rattle.x64_decode.specs.Operands.{has_modrm, is_memory, rest_size}
use Rattle.x64_decode.specs.Table.{table}

-- the bytes of a code
abbrev pub code_bytes : Code → List ℕ
code_bytes (code.One a) = a ∷ []
code_bytes (code.Two a b) = a ∷ b ∷ []
code_bytes (code.Three a b c) = a ∷ b ∷ c ∷ []
code_bytes (code.Four a b c d) = a ∷ b ∷ c ∷ d ∷ []

-- what a row lets stand before its code
abbrev pub before_allows : Before → Front → Bool
before_allows before.Anything f = true
before_allows before.NoWord f = not f.word
before_allows before.Nothing f = f.length == 0
before_allows before.WithW f = rex_bit 8 f.rex == 1
before_allows before.WithoutW f = rex_bit 8 f.rex == 0
before_allows before.WithB f = rex_bit 1 f.rex == 1
before_allows before.WithoutB f = rex_bit 1 f.rex == 0

-- whether the r/m operand may be memory, with or without F0
abbrev pub memory_allows : Lock → Bool → Bool
memory_allows lock.Never locked = not locked
memory_allows lock.WithMemory locked = true
memory_allows lock.AlwaysWithMemory locked = locked

-- an operand that must be memory
abbrev pub must_be_memory : Place → Bool
must_be_memory (place.Memory s) = true
must_be_memory _ = false

-- whether a row may have memory behind a front
unfoldable pub takes_memory : Front → Row → Bool
takes_memory f r = memory_allows r.lock f.lock

-- whether a row may have a register as r/m behind a front: never behind F0
unfoldable pub takes_register : Front → Row → Bool
takes_register f r = not f.lock && (not (must_be_memory r.to) && not (must_be_memory r.from))

-- ModRM's reg field is the row's digit, if it has one
abbrev pub digit_allows : Option ℕ → ℕ → Bool
digit_allows None modrm = true
digit_allows (Some d) modrm = modrm / 8 % 8 == d % 8

-- what a row lets ModRM be
unfoldable pub modrm_allows : Front → Row → ℕ → Bool
modrm_allows f r modrm =
    digit_allows r.digit modrm && (if is_memory modrm then takes_memory f r else takes_register f r)

-- what a row lets stand before and after its code; without ModRM there is no F0
unfoldable pub allows : Front → Row → ℕ → Bool
allows f r modrm =
    before_allows r.before f && (if has_modrm r then modrm_allows f r modrm else not f.lock)

-- behind a front, these bytes spell an instruction by a row: its code, and what it asks for after that
pub record SpellsBy (f : Front) (r : Row) (bytes : List ℕ) (i : Instr) : Type 0 where
  pub rest : List ℕ
  pub parts : bytes ≡ code_bytes r.code ++ rest
  pub allowed : allows f r (slice_index rest 0) ≡ true
  pub whole : length rest ≡ rest_size f r rest
  pub means : i ≡ meaning f r rest

-- a row stands in a list
abbrev pub StandsIn : List Row → Row → Type 0
StandsIn [] r = ⊥
StandsIn (x ∷ xs) r = (r ≡ x) ⊎ StandsIn xs r

-- these bytes spell an instruction: prefixes in any order, an optional REX, and what a row of the table spells behind them
pub record Spells (bytes : List ℕ) (i : Instr) : Type 0 where
  pub prefixes : List ℕ
  pub rex : Option ℕ
  pub row : Row
  pub body : List ℕ
  pub parts : bytes ≡ prefixes ++ (rex_bytes rex ++ body)
  pub are_bytes : AllByRecursion IsByte bytes
  pub are_prefixes : AllByRecursion IsPrefix prefixes
  pub is_rex : IfSome rex IsRex
  pub listed : StandsIn table row
  pub spelled : SpellsBy (front_of prefixes rex) row body i

-- the first bytes spell an instruction
abbrev pub BeginsWithSpelling : List ℕ → Type 0
BeginsWithSpelling c = (n : ℕ) × (i : Instr) × (n ≤ length c) × Spells (take n c) i

-- with more bytes they spell an instruction
abbrev pub BeginsSpelling : List ℕ → Type 0
BeginsSpelling c = (more : List ℕ) × (i : Instr) × (0 < length more) × Spells (c ++ more) i

-- with more bytes, up to 15 in all, they spell an instruction
abbrev pub BeginsShortSpelling : List ℕ → Type 0
BeginsShortSpelling c =
    (more : List ℕ) × (i : Instr) × (0 < length more) × (length c + length more ≤ 15) × Spells (c ++ more) i

-- the answers of the decoder to bytes, of which there are at most 15: the one instruction that begins them and its
-- length; or else that they are cut off, that every spelling which they begin is too long, or that they begin none
abbrev pub Answers : List ℕ → Result (Instr × ℕ) DecodeFault → Type 0
Answers c (Ok (i, n)) =
    (n ≤ length c) × Spells (take n c) i
    × ((m : ℕ) (j : Instr) → m ≤ length c → Spells (take m c) j → (m ≡ n) × (j ≡ i))
Answers c (Err Cut) = (BeginsWithSpelling c → ⊥) × BeginsShortSpelling c
Answers c (Err TooLong) = (BeginsWithSpelling c → ⊥) × (BeginsShortSpelling c → ⊥) × BeginsSpelling c
Answers c (Err Unknown) = (BeginsWithSpelling c → ⊥) × (BeginsSpelling c → ⊥)

-- an instruction's length: 1 to 15, and within so many bytes
abbrev pub IsLengthWithin : ℕ → ℕ → Type 0
IsLengthWithin count n = (0 < n) × (n ≤ 15) × (n ≤ count)

-- no spelling begins another, and none means two instructions
abbrev pub SpellingsStandAlone : Type 0
SpellingsStandAlone =
    (a b : List ℕ) (i j : Instr) → Spells a i → Spells (a ++ b) j → (b ≡ []) × (i ≡ j)
