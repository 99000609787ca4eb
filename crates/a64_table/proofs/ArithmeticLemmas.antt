-- The arithmetic of words as the functions of this crate compute it.
use Rattle.std.proofs.Common.{◌≡◌, ℕ, ◌+◌, ◌-◌, ◌*◌, ◌%◌, ◌^◌, ◌<◌, ◌≤◌, Bool, true, false, arith, ap, sym, ◌∙◌, refl}
use Rattle.std.specs.Prelude.{bit_or, bit_xor, ℤ, pos, negsuc, zero, suc, FitsSigned, nat_le, ◌&&◌, if◌then◌else◌}
use Rattle.std.specs.Int.{w128, cast_unsigned}
use Rattle.std.proofs.lemmas.Int.{ints}
use Rattle.std.proofs.lemmas.Nat.{pow_pos, xor_lt, or_lt}
use Rattle.std.proofs.Math.Nat.{pow-le-pow_right, mul-le-mul_right}
use Rattle.word_arith.specs.Width.{IsWidth}
use Rattle.word_arith.specs.Bits.{bit, top_bit}
use Rattle.word_arith.specs.Signed.{low_bits, extended}
use Rattle.word_arith.proofs.LowBitsLemmas.{low_bits_is, low_bits_pos}
use Rattle.word_arith.proofs.ShiftLemmas.{mod_small, pow_split}
use Rattle.word_arith.proofs.ExtendLemmas.{sign_extend_is}

-- the 128 bits of a number of 128 bits
pub bits_of_128 : (z : ℤ) (x : ℕ) → FitsSigned w128 z → x ≡ cast_unsigned w128 z → x ≡ low_bits 128 z
bits_of_128 (pos n) x fits is =
    let small : n < 2 ^ 127 = fits.sfits in
    is ∙ sym (low_bits_pos 128 n ∙ mod_small n 128 (omega arith))
bits_of_128 (negsuc n) x fits is =
    let small : n < 2 ^ 127 = fits.sfits in
    is ∙ sym (low_bits_is 128 (negsuc n) 1 (2 ^ 128 - suc n) (omega (arith, ints)) ∙ mod_small (2 ^ 128 - suc n) 128 (omega arith))

-- a longer word has more values
pub wider : (len v : ℕ) → len ≤ v → 2 ^ len ≤ 2 ^ v
wider len v h = pow-le-pow_right {n = 2} (omega arith) h

-- an extension by the sign, by a test of the top bit
pub extended_is : (sign : Bool) (v len a : ℕ) → len ≤ v → a < 2 ^ len →
    extended sign v len a ≡ (if sign && nat_le (2 ^ (len - 1)) a then a + (2 ^ v - 2 ^ len) else a)
unfolding top_bit
extended_is false v len a h p = refl
extended_is true v len a h p = sign_extend_is v len a h p ∙ by (nat_le (2 ^ (len - 1)) a)
  where
    by : (b : Bool) → a + bit b * (2 ^ v - 2 ^ len) ≡ (if b then a + (2 ^ v - 2 ^ len) else a)
    by true = omega arith
    by false = omega arith

-- a field of fewer than 64 bits, moved up to the top of a word
pub moved_up : (w immr field : ℕ) → IsWidth w → immr < w → field < 2 ^ immr →
    (field * 2 ^ (w - immr) % 2 ^ 64 ≡ field * 2 ^ (w - immr)) × (field * 2 ^ (w - immr) % 2 ^ 64 < 2 ^ w)
moved_up w immr field width h p =
    let k : ℕ = w - immr in
    let back : w - k ≡ immr = omega arith in
    let cut : 2 ^ w ≡ 2 ^ immr * 2 ^ k = pow_split w k (omega arith) ∙ ap (λ m. 2 ^ m * 2 ^ k) back in
    let most : (field + 1) * 2 ^ k ≤ 2 ^ immr * 2 ^ k = mul-le-mul_right (2 ^ k) (omega arith) in
    let fits : field * 2 ^ k < 2 ^ w = omega (arith, most, cut, pow_pos k) in
    let narrow : w ≤ 64 = grind arith in
    let same : field * 2 ^ k % 2 ^ 64 ≡ field * 2 ^ k = mod_small (field * 2 ^ k) 64 (omega (arith, fits, wider w 64 narrow)) in
    (same, omega (arith, same, fits))

-- 16 bits in one of four quarters fit 64 bits
pub quarter_fits : (v quarter : ℕ) → v < 2 ^ 16 → quarter < 4 → v * 2 ^ (16 * quarter) % 2 ^ 64 ≡ v * 2 ^ (16 * quarter)
quarter_fits v zero small few = omega (arith, small)
quarter_fits v (suc zero) small few = omega (arith, small)
quarter_fits v (suc (suc zero)) small few = omega (arith, small)
quarter_fits v (suc (suc (suc zero))) small few = omega (arith, small)
quarter_fits v (suc (suc (suc (suc quarter)))) small few = absurd (omega (arith, few))

-- words of 64 bits by `^` and `|` are words of 64 bits
pub xor_fits : (a b : ℕ) → a < 2 ^ 64 → b < 2 ^ 64 → bit_xor a b % 2 ^ 64 ≡ bit_xor a b
xor_fits a b p q = mod_small (bit_xor a b) 64 (xor_lt 64 a b p q)

pub or_fits : (a b : ℕ) → a < 2 ^ 64 → b < 2 ^ 64 → bit_or a b % 2 ^ 64 ≡ bit_or a b
or_fits a b p q = mod_small (bit_or a b) 64 (or_lt 64 a b p q)
