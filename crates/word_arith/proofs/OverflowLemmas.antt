-- Signed overflow at the four widths, by the top bits of words; whether a number fits, and a product is more than its low half.
use Rattle.std.proofs.Common.{◌≡◌, ℕ, ◌+◌, ◌-◌, ◌*◌, ◌/◌, ◌%◌, ◌^◌, ◌<◌, arith, inl, inr}
use Rattle.std.specs.Prelude.{ℤ, pos, neg_ℤ, ◌+ℤ◌, ◌-ℤ◌, ◌≤ℤ◌, not, ◌&&◌, ◌||◌, ◌==◌, int_lt, int_le}
use Rattle.std.proofs.lemmas.Int.{ints}
use Rattle.std.proofs.lemmas.Bool.Decides.{nat_tests}
use Rattle.word_arith.specs.Width.{IsWidth}
use Rattle.word_arith.specs.Bits.{bit, differ, top_bit}
use Rattle.word_arith.specs.Signed.{signed, fits_signed, low_bits, sign_extend}

-- a sum overflows where both operands' top bits differ from the result's
pub sum_overflow : (W a b c : ℕ) → IsWidth W → a < 2 ^ W → b < 2 ^ W → c < 2 →
    not (fits_signed W (signed W a +ℤ signed W b +ℤ pos c))
    ≡ (differ (top_bit W a) (top_bit W ((a + b + c) % 2 ^ W)) && differ (top_bit W b) (top_bit W ((a + b + c) % 2 ^ W)))
unfolding signed fits_signed top_bit
sum_overflow W a b c w p q r = grind (arith, nat_tests, ints)

-- a difference overflows where the operands' top bits differ and the first one's differs from the result's
pub difference_overflow : (W a b c : ℕ) → IsWidth W → a < 2 ^ W → b < 2 ^ W → c < 2 →
    not (fits_signed W (signed W a -ℤ signed W b -ℤ pos c))
    ≡ (differ (top_bit W a) (top_bit W b) && differ (top_bit W a) (top_bit W ((a + (2 ^ W - (b + c))) % 2 ^ W)))
unfolding signed fits_signed top_bit
difference_overflow W a b c w p q r = grind (arith, nat_tests, ints)

-- after a difference, sign differs from overflow where the first operand is less with sign
pub less_by_overflow : (W a b : ℕ) → IsWidth W → a < 2 ^ W → b < 2 ^ W →
    differ (top_bit W ((a + (2 ^ W - b)) % 2 ^ W)) (not (fits_signed W (signed W a -ℤ signed W b))) ≡ int_lt (signed W a) (signed W b)
unfolding signed fits_signed top_bit
less_by_overflow W a b w p q = grind (arith, nat_tests, ints)

-- whether a number from -(2 ^ 63) to 2 ^ 63, both included, fits W bits, by the extension of its low bits
pub range_by_extension : (W : ℕ) (z : ℤ) → IsWidth W → W < 64 → neg_ℤ (pos (2 ^ 63)) ≤ℤ z → z ≤ℤ pos (2 ^ 63) →
    fits_signed W z ≡ (low_bits 64 z == sign_extend 64 W (low_bits 64 z % 2 ^ W))
unfolding signed fits_signed low_bits
range_by_extension W z w small low high = grind (arith, nat_tests, ints)

-- a number within 2 ^ (2 * W - 2) fits W bits where the extension of its low half is the whole
abbrev IsRangeByHalf : ℕ → Type 0
IsRangeByHalf W = (z : ℤ) → neg_ℤ (pos (2 ^ (2 * W - 2))) ≤ℤ z → z ≤ℤ pos (2 ^ (2 * W - 2)) →
    (low_bits (2 * W) z == sign_extend (2 * W) W (low_bits (2 * W) z % 2 ^ W)) ≡ fits_signed W z

-- so at 8 bits
range_by_half_8 : IsRangeByHalf 8
unfolding signed fits_signed low_bits
range_by_half_8 z low high = grind (arith, nat_tests, ints)

-- so at 16 bits
range_by_half_16 : IsRangeByHalf 16
unfolding signed fits_signed low_bits
range_by_half_16 z low high = grind (arith, nat_tests, ints)

-- so at 32 bits
range_by_half_32 : IsRangeByHalf 32
unfolding signed fits_signed low_bits
range_by_half_32 z low high = grind (arith, nat_tests, ints)

-- so at 64 bits
range_by_half_64 : IsRangeByHalf 64
unfolding signed fits_signed low_bits
range_by_half_64 z low high = grind (arith, nat_tests, ints)

-- so at each width
half_range : (W : ℕ) → IsWidth W → IsRangeByHalf W
half_range W w = elim w [
  | inl e ↦ rw e range_by_half_8
  | inr v ↦ elim v [
    | inl e ↦ rw e range_by_half_16
    | inr u ↦ elim u [
      | inl e ↦ rw e range_by_half_32
      | inr e ↦ rw e range_by_half_64
    ]
  ]
]

-- whether a product of meanings fits W bits, by the extension of its low half
pub range_by_half : (W : ℕ) (z : ℤ) → IsWidth W → neg_ℤ (pos (2 ^ (2 * W - 2))) ≤ℤ z → z ≤ℤ pos (2 ^ (2 * W - 2)) →
    (low_bits (2 * W) z == sign_extend (2 * W) W (low_bits (2 * W) z % 2 ^ W)) ≡ fits_signed W z
range_by_half W z w = half_range W w z

-- a double product without sign is its low half where its high half is 0
pub over_plain : (W p : ℕ) → IsWidth W → (p == p % 2 ^ W) ≡ (p / 2 ^ W == 0)
over_plain W p w = grind (arith, nat_tests)

-- a double product with sign is the extension of its low half where its high half is all signs
pub over_signed : (W p : ℕ) → IsWidth W → p < 2 ^ (2 * W) →
    (p == sign_extend (2 * W) W (p % 2 ^ W)) ≡ (p / 2 ^ W == bit (top_bit W (p % 2 ^ W)) * (2 ^ W - 1))
unfolding signed low_bits top_bit
over_signed W p w h = grind (arith, nat_tests, ints)

-- after a difference, the result is 0 or sign differs from overflow where the first operand is at most the second with sign
pub at_most_by_overflow : (W a b : ℕ) → IsWidth W → a < 2 ^ W → b < 2 ^ W →
    ((((a + (2 ^ W - b)) % 2 ^ W) == 0) || differ (top_bit W ((a + (2 ^ W - b)) % 2 ^ W)) (not (fits_signed W (signed W a -ℤ signed W b))))
    ≡ int_le (signed W a) (signed W b)
unfolding signed fits_signed top_bit
at_most_by_overflow W a b w p q = grind (arith, nat_tests, ints)
