-- The conditions, and what they mean after a comparison.
use Rattle.std.proofs.Common.{◌≡◌, ℕ, ◌+◌, ◌-◌, ◌*◌, ◌%◌, ◌^◌, ◌<◌, arith, refl, ap, ◌∙◌}
use Rattle.std.specs.Prelude.{bit_or, bit_xor, nat_lt, nat_le, ◌==◌, not, int_lt, int_le}
use Rattle.std.proofs.lemmas.Int.{ints}
use Rattle.std.proofs.lemmas.Bool.Decides.{nat_tests}
use Rattle.word_arith.specs.Width.{IsWidth}
use Rattle.word_arith.specs.Bits.{bit, top_bit, differ}
use Rattle.word_arith.specs.Signed.{signed, fits_signed}
use Rattle.word_arith.proofs.CallerLemmas.{bit-not, bit-or, bit-differ}
use Rattle.alu_width.specs.declared.flags.Flags.{Flags}
use Rattle.alu_width.specs.Sums.{outcome, difference_outcome}
use Rattle.alu_width.specs.Comparisons.{Comparisons}
use Rattle.alu_width.specs.Conditions.{condition}

-- B after a comparison: below, without sign
pub condition_b : (W a b : ℕ) → condition 2 (difference_outcome W a b 0).flags ≡ nat_lt a b
unfolding condition difference_outcome outcome
condition_b W a b = grind (arith, nat_tests)

-- E after a comparison: equal
pub condition_e : (W a b : ℕ) → IsWidth W → a < 2 ^ W → b < 2 ^ W → condition 4 (difference_outcome W a b 0).flags ≡ (a == b)
unfolding condition difference_outcome outcome
condition_e W a b w p q = grind (arith, nat_tests)

-- BE after a comparison: below or equal, without sign
pub condition_be : (W a b : ℕ) → IsWidth W → a < 2 ^ W → b < 2 ^ W → condition 6 (difference_outcome W a b 0).flags ≡ nat_le a b
unfolding condition difference_outcome outcome
condition_be W a b w p q = grind (arith, nat_tests)

-- L after a comparison: less, with sign
pub condition_l : (W a b : ℕ) → IsWidth W → a < 2 ^ W → b < 2 ^ W →
    condition 12 (difference_outcome W a b 0).flags ≡ int_lt (signed W a) (signed W b)
unfolding condition difference_outcome outcome signed fits_signed top_bit
condition_l W a b w p q = grind (arith, nat_tests, ints)

-- LE after a comparison: less or equal, with sign
pub condition_le : (W a b : ℕ) → IsWidth W → a < 2 ^ W → b < 2 ^ W →
    condition 14 (difference_outcome W a b 0).flags ≡ int_le (signed W a) (signed W b)
unfolding condition difference_outcome outcome signed fits_signed top_bit
condition_le W a b w p q = grind (arith, nat_tests, ints)

-- the law of comparisons
pub comparisons : Comparisons
comparisons W a b w p q = record {
  below = condition_b W a b;
  equal = condition_e W a b w p q;
  at_most = condition_be W a b w p q;
  less = condition_l W a b w p q;
  less_or_equal = condition_le W a b w p q;
}

-- an odd code is the opposite of the even one below it
pub condition-odd : (m : ℕ) (f : Flags) → condition (2 * m + 1) f ≡ not (condition (2 * m) f)
unfolding condition
condition-odd m f =
    let odd : (2 * m + 1) % 2 ≡ 1 = omega arith in
    let even : 2 * m % 2 ≡ 0 = omega arith in
    let down : 2 * m + 1 - 1 ≡ 2 * m = omega arith in
    let same : 2 * m - 0 ≡ 2 * m = omega arith in
    rw (odd, even, down, same)

-- ---- the conditions as words, from the flags as words

-- O is OF
pub bit-condition_o : (f : Flags) → bit (condition 0 f) ≡ bit f.of
unfolding condition
bit-condition_o f = refl

-- B is CF
pub bit-condition_b : (f : Flags) → bit (condition 2 f) ≡ bit f.cf
unfolding condition
bit-condition_b f = refl

-- E is ZF
pub bit-condition_e : (f : Flags) → bit (condition 4 f) ≡ bit f.zf
unfolding condition
bit-condition_e f = refl

-- BE is CF or ZF
pub bit-condition_be : (f : Flags) → bit (condition 6 f) ≡ bit_or (bit f.cf) (bit f.zf)
unfolding condition
bit-condition_be f = bit-or f.cf f.zf

-- S is SF
pub bit-condition_s : (f : Flags) → bit (condition 8 f) ≡ bit f.sf
unfolding condition
bit-condition_s f = refl

-- L is that SF differs from OF
pub bit-condition_l : (f : Flags) → bit (condition 12 f) ≡ bit_xor (bit f.sf) (bit f.of)
unfolding condition
bit-condition_l f = bit-differ f.sf f.of

-- LE is ZF, or that SF differs from OF
pub bit-condition_le : (f : Flags) → bit (condition 14 f) ≡ bit_or (bit f.zf) (bit_xor (bit f.sf) (bit f.of))
unfolding condition
bit-condition_le f = bit-or f.zf (differ f.sf f.of) ∙ ap (λ m. bit_or (bit f.zf) m) (bit-differ f.sf f.of)

-- an odd code is the opposite, by `^ 1`
pub bit-condition-odd : (m : ℕ) (f : Flags) → bit (condition (2 * m + 1) f) ≡ bit_xor (bit (condition (2 * m) f)) 1
bit-condition-odd m f = ap bit (condition-odd m f) ∙ bit-not (condition (2 * m) f)
