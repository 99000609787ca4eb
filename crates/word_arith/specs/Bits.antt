-- Bits and parts of words. A word of W bits is a natural number below 2 ^ W; bit 0 is its lowest.
use Rattle.std.specs.Prelude.{ℕ, ◌+◌, ◌-◌, ◌*◌, ◌/◌, ◌%◌, ◌^◌, Bool, true, false, not, nat_le}

-- a flag as a number
abbrev pub bit : Bool → ℕ
bit false = 0
bit true = 1

-- whether two flags differ
abbrev pub differ : Bool → Bool → Bool
differ false b = b
differ true b = not b

-- the highest of W bits
unfoldable pub top_bit : (W a : ℕ) → Bool
top_bit W a = nat_le (2 ^ (W - 1)) a

-- the `len` bits of n from bit `lo` on
abbrev pub field : (lo len n : ℕ) → ℕ
field lo len n = n / 2 ^ lo % 2 ^ len

-- n with the `len` bits from bit `lo` on replaced by v
abbrev pub insert : (lo len n v : ℕ) → ℕ
insert lo len n v = n / 2 ^ (lo + len) * 2 ^ (lo + len) + v * 2 ^ lo + n % 2 ^ lo
