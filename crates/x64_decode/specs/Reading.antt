-- How far given bytes go towards a spelling, row by row.
use Rattle.std.specs.Prelude.{ℕ, ◌+◌, ◌-◌, ◌*◌, ◌%◌, min, ◌≤◌, Bool, true, ◌&&◌, ◌==◌, nat_le, if◌then◌else◌, List, [], ◌∷◌, length, take, drop, slice_index_or, Option, Some, None}
use Rattle.x64_decode.specs.declared.reading.Reading.{Reading}
use Rattle.x64_decode.specs.declared.reading.Reading.TheVariants.{Done, More, Bad}
use Rattle.x64_decode.specs.declared.row.Code.{Code}
use Rattle.x64_decode.specs.declared.row.Code.TheVariants as code
use Rattle.x64_decode.specs.declared.row.Front.{Front}
use Rattle.x64_decode.specs.declared.row.Row.{Row}
use Rattle.x64_decode.specs.Bytes.{is_prefix, is_rex}
use Rattle.x64_decode.specs.Fronts.{front_of}
use Rattle.x64_decode.specs.Meaning.{meaning}
use Rattle.x64_decode.specs.Operands.{rest_size}
use Rattle.x64_decode.specs.Spelling.{allows, code_bytes, takes_memory}
use Rattle.x64_decode.specs.Table.{table}

-- the first byte of a code
abbrev pub first_byte : Code → ℕ
first_byte (code.One a) = a
first_byte (code.Two a b) = a
first_byte (code.Three a b c) = a
first_byte (code.Four a b c d) = a

-- the bytes after the first that are there agree with a code
abbrev pub others_agree : Code → List ℕ → Bool
others_agree (code.One a) bytes = true
others_agree (code.Two a b) bytes = slice_index_or bytes 1 b == b
others_agree (code.Three a b c) bytes = (slice_index_or bytes 1 b == b) && (slice_index_or bytes 2 c == c)
others_agree (code.Four a b c d) bytes =
    (slice_index_or bytes 1 b == b) && ((slice_index_or bytes 2 c == c) && (slice_index_or bytes 3 d == d))

-- the bytes that are there agree with a code
abbrev pub agrees : Code → List ℕ → Bool
agrees c bytes = (slice_index_or bytes 0 (first_byte c) == first_byte c) && others_agree c bytes

-- the number in ModRM's reg field, 0 where the row asks for none
abbrev pub digit_of : Option ℕ → ℕ
digit_of None = 0
digit_of (Some d) = d % 8

-- a ModRM byte that a row allows behind a front wherever it allows any, with nothing after it
unfoldable pub chosen : Front → Row → ℕ
chosen f r = if takes_memory f r then 8 * digit_of r.digit else 0xC0 + 8 * digit_of r.digit

-- how far the bytes behind a front go towards what a row spells
unfoldable pub row_reading : Front → Row → List ℕ → Reading
row_reading f r body =
    let rest = drop (length (code_bytes r.code)) body in
    let whole = length (code_bytes r.code) + rest_size f r rest in
    if agrees r.code body && allows f r (slice_index_or rest 0 (chosen f r)) then
    (if nat_le whole (length body) then Done (meaning f r (take (rest_size f r rest) rest)) whole
    else More (whole - length body))
    else Bad

-- of two readings the first that is done, and else the one that wants fewer bytes
abbrev pub merge : Reading → Reading → Reading
merge (Done i n) b = Done i n
merge (More k) (Done i n) = Done i n
merge (More k) (More m) = More (min k m)
merge (More k) Bad = More k
merge Bad b = b

-- the merged readings of all rows
abbrev pub rows_reading : Front → List Row → List ℕ → Reading
rows_reading f [] body = Bad
rows_reading f (r ∷ rs) body = merge (row_reading f r body) (rows_reading f rs body)

-- the longest run of prefixes
abbrev pub prefixes_at : List ℕ → List ℕ
prefixes_at [] = []
prefixes_at (b ∷ bs) = if is_prefix b then b ∷ prefixes_at bs else []

-- a REX byte that stands first
abbrev pub rex_at : List ℕ → Option ℕ
rex_at [] = None
rex_at (b ∷ bs) = if is_rex b then Some b else None

-- the front that stands there
unfoldable pub front_at : List ℕ → Front
front_at c = front_of (prefixes_at c) (rex_at (drop (length (prefixes_at c)) c))

-- a reading of what stands behind a front of so many bytes, as a reading of the whole
abbrev pub behind : ℕ → Reading → Reading
behind k (Done i n) = Done i (k + n)
behind k (More m) = More m
behind k Bad = Bad

-- how far bytes go towards a spelling
unfoldable pub reading_of : List ℕ → Reading
reading_of c = behind (front_at c).length (rows_reading (front_at c) table (drop (front_at c).length c))

-- what is read lies within so many bytes
abbrev pub IsWithin : ℕ → Reading → Type 0
IsWithin k (Done i n) = n ≤ k
IsWithin k _ = Unit {0}
