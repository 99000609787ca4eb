-- Words in two's complement: what a word means, and the word of a number.
use Rattle.std.specs.Prelude.{ℕ, ◌-◌, ◌^◌, ℤ, pos, ◌-ℤ◌, neg_ℤ, Bool, true, false, ◌&&◌, if◌then◌else◌, nat_le, int_le, int_lt, unsigned_abs}
use Rattle.std.specs.Int.{int_rem_euclid}

-- the number that the W bits of a mean: where the top bit is set, 2 ^ W less
unfoldable pub signed : (W a : ℕ) → ℤ
signed W a = if nat_le (2 ^ (W - 1)) a then pos a -ℤ pos (2 ^ W) else pos a

-- z is one of the numbers that W bits mean, from -(2 ^ (W - 1)) to 2 ^ (W - 1) - 1
unfoldable pub fits_signed : (W : ℕ) → ℤ → Bool
fits_signed W z = int_le (neg_ℤ (pos (2 ^ (W - 1)))) z && int_lt z (pos (2 ^ (W - 1)))

-- z modulo 2 ^ W, which is its W low bits in two's complement
unfoldable pub low_bits : (W : ℕ) → ℤ → ℕ
low_bits W z = unsigned_abs (int_rem_euclid z (pos (2 ^ W)))

-- the V bits that mean what the W bits of a mean
abbrev pub sign_extend : (V W a : ℕ) → ℕ
sign_extend V W a = low_bits V (signed W a)

-- the W bits of a as V bits, by zeros (false) or by the sign (true)
abbrev pub extended : (sign : Bool) (V W a : ℕ) → ℕ
extended false V W a = a
extended true V W a = sign_extend V W a
