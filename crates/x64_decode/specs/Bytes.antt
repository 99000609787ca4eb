-- Bytes, and the numbers that they spell.
use Rattle.std.specs.Prelude.{◌≡◌, ℕ, ◌+◌, ◌-◌, ◌*◌, ◌/◌, ◌^◌, ◌<◌, Bool, true, ◌||◌, ◌==◌, nat_lt, if◌then◌else◌, List, drop, slice_index, ℤ, pos, ◌-ℤ◌}
use Rattle.std.specs.List.{list_any}
use Rattle.x64_syntax.specs.declared.operand.Width.{Width}
use Rattle.x64_syntax.specs.Operands.{bits}

-- a byte
abbrev pub IsByte : ℕ → Type 0
IsByte b = b < 256

-- the prefixes: 66 (operand size), F0 (lock), and the segment overrides 2E, 36, 3E and 26, which mean nothing in 64-bit mode
unfoldable pub is_prefix : ℕ → Bool
is_prefix b = (b == 0x66) || (b == 0xF0) || (b == 0x2E) || (b == 0x36) || (b == 0x3E) || (b == 0x26)

-- a prefix
abbrev pub IsPrefix : ℕ → Type 0
IsPrefix b = is_prefix b ≡ true

-- the REX bytes, 40 to 4F
unfoldable pub is_rex : ℕ → Bool
is_rex b = b / 16 == 4

-- a REX byte
abbrev pub IsRex : ℕ → Type 0
IsRex b = is_rex b ≡ true

-- whether a byte is among these
unfoldable pub has : ℕ → List ℕ → Bool
has b bytes = list_any (λ x. x == b) bytes

-- the number of the first two bytes, the least first; a byte that isn't there counts as 0
unfoldable pub two_bytes : List ℕ → ℕ
two_bytes bytes = slice_index bytes 0 + 0x100 * slice_index bytes 1

-- the number of the first four bytes
unfoldable pub four_bytes : List ℕ → ℕ
four_bytes bytes = two_bytes bytes + 0x10000 * two_bytes (drop 2 bytes)

-- the number of the first eight bytes
unfoldable pub eight_bytes : List ℕ → ℕ
eight_bytes bytes = four_bytes bytes + 0x100000000 * four_bytes (drop 4 bytes)

-- 8 bits as a number with sign
unfoldable pub signed_byte : ℕ → ℤ
signed_byte n = if nat_lt n 0x80 then pos n else pos n -ℤ pos 0x100

-- 32 bits as a number with sign
unfoldable pub signed_long : ℕ → ℤ
signed_long n = if nat_lt n 0x80000000 then pos n else pos n -ℤ pos 0x100000000

-- a number of the first width, sign-extended to the second
abbrev pub extend : Width → Width → ℕ → ℕ
extend from to n = if nat_lt n (2 ^ (bits from - 1)) then n else n + (2 ^ bits to - 2 ^ bits from)
