-- What words mean in two's complement.
use Rattle.std.proofs.Common.{◌≡◌, ◌≢◌, ℕ, ◌-◌, ◌^◌, ◌<◌, ◌≤◌, suc, Bool, true, false, arith, ap, ◌∙◌, inl, inr, ◌*◌}
use Rattle.std.specs.Prelude.{ℤ, pos, negsuc, neg_ℤ, ◌-ℤ◌, ◌≤ℤ◌, ◌<ℤ◌, nat_le, int_le, int_lt, ◌&&◌, if◌then◌else◌}
use Rattle.std.proofs.lemmas.Int.{ints}
use Rattle.std.proofs.lemmas.Bool.{le-leb, lt-leb}
use Rattle.std.proofs.lemmas.Bool.Decides.{nat_tests, leb_tells}
use Rattle.word_arith.specs.Bits.{bit, top_bit}
use Rattle.word_arith.specs.Signed.{signed, fits_signed, low_bits}
use Rattle.word_arith.proofs.BitLemmas.{pow_half}
use Rattle.word_arith.proofs.LowBitsLemmas.{low_bits_is, low_bits_pos}
use Rattle.word_arith.proofs.ShiftLemmas.{mod_small}

-- a natural number that fits is below 2 ^ (W - 1)
pub fits_pos : (W n : ℕ) → fits_signed W (pos n) ≡ true → n < 2 ^ (W - 1)
unfolding fits_signed
fits_pos W n fits = grind (arith, nat_tests, ints)

-- a negative number that fits is at least -(2 ^ (W - 1))
pub fits_negsuc : (W n : ℕ) → fits_signed W (negsuc n) ≡ true → n < 2 ^ (W - 1)
unfolding fits_signed
fits_negsuc W n fits = grind (arith, nat_tests, ints)

-- a word below the half means itself
pub signed_low : (W a : ℕ) → a < 2 ^ (W - 1) → signed W a ≡ pos a
unfolding signed
signed_low W a h = rw (lt-leb (2 ^ (W - 1)) a h)

-- a word from the half on means 2 ^ W less
pub signed_high : (W a : ℕ) → 2 ^ (W - 1) ≤ a → signed W a ≡ pos a -ℤ pos (2 ^ W)
unfolding signed
signed_high W a h = rw (le-leb (2 ^ (W - 1)) a h)

-- the word of a number that fits means that number
pub signed_low_bits : (W : ℕ) (z : ℤ) → 0 < W → fits_signed W z ≡ true → signed W (low_bits W z) ≡ z
signed_low_bits W (pos n) some fits =
    let half = pow_half W some in
    let small = fits_pos W n fits in
    let word : low_bits W (pos n) ≡ n = low_bits_pos W n ∙ mod_small n W (omega arith) in
    ap (λ m. signed W m) word ∙ signed_low W n small
signed_low_bits W (negsuc n) some fits =
    let half = pow_half W some in
    let small = fits_negsuc W n fits in
    let back : ℕ = 2 ^ W - suc n in
    let word : low_bits W (negsuc n) ≡ back =
    low_bits_is W (negsuc n) 1 back (omega (arith, ints, half, small)) ∙ mod_small back W (omega (arith, half, small)) in
    ap (λ m. signed W m) word ∙ signed_high W back (omega (arith, half, small)) ∙ omega (arith, ints, half, small)

-- the test of a range, from its bounds
fits_test : (z : ℤ) (h : ℕ) → neg_ℤ (pos h) ≤ℤ z → z <ℤ pos h → (int_le (neg_ℤ (pos h)) z && int_lt z (pos h)) ≡ true
fits_test z h low high = grind (arith, nat_tests, ints)

-- what a word means fits
pub signed_fits : (W a : ℕ) → 0 < W → a < 2 ^ W → fits_signed W (signed W a) ≡ true
unfolding fits_signed
signed_fits W a some p =
    let half = pow_half W some in
    elim (leb_tells (2 ^ (W - 1)) a) [
      | inl w ↦ rw (signed_high W a w.1) (fits_test (pos a -ℤ pos (2 ^ W)) (2 ^ (W - 1)) (omega (arith, ints, half, w.1)) (omega (arith, ints, half, p, w.1)))
      | inr w ↦ rw (signed_low W a w.1) (fits_test (pos a) (2 ^ (W - 1)) (omega (arith, ints)) (omega (arith, ints, w.1)))
    ]

-- a word that is not 0 does not mean 0
pub signed_not_zero : (W a : ℕ) → a < 2 ^ W → a ≢ 0 → signed W a ≢ pos 0
signed_not_zero W a p h = λ e. elim (leb_tells (2 ^ (W - 1)) a) [
  | inl w ↦ absurd (omega (arith, ints, signed_high W a w.1, e, p))
  | inr w ↦ h (omega (arith, ints, signed_low W a w.1, e))
]

-- a choice by a flag as a product with it
chosen : (b : Bool) (a m : ℕ) → (if b then pos a -ℤ pos m else pos a) ≡ pos a -ℤ pos (bit b * m)
chosen true a m = omega (arith, ints)
chosen false a m = omega (arith, ints)

-- what a word means: itself less 2 ^ W times its top bit
pub signed_is : (W a : ℕ) → signed W a ≡ pos a -ℤ pos (bit (top_bit W a) * 2 ^ W)
unfolding signed top_bit
signed_is W a = chosen (nat_le (2 ^ (W - 1)) a) a (2 ^ W)

-- the word of what a word means is that word
pub low_bits_signed : (W a : ℕ) → a < 2 ^ W → low_bits W (signed W a) ≡ a
low_bits_signed W a p =
    low_bits_is W (signed W a) (bit (top_bit W a)) a (omega (arith, ints, signed_is W a)) ∙ mod_small a W p
