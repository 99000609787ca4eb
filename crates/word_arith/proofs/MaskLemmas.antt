-- Masks: words that are runs of ones, under `&` and `^`.
use Rattle.std.proofs.Common.{◌≡◌, ℕ, ◌+◌, ◌-◌, ◌*◌, ◌/◌, ◌%◌, ◌^◌, ◌<◌, arith, ap, ◌∙◌}
use Rattle.std.specs.Prelude.{bit_and, bit_xor}
use Rattle.std.proofs.lemmas.Nat.{pow_pos, pow-add, and_mask}
use lib.Bits.{xor_add_and}
use Rattle.word_arith.specs.Bits.{field}
use Rattle.word_arith.specs.Masks.{ones, ones_at}
use Rattle.word_arith.proofs.ShiftLemmas.{mod_small}

-- the low bits, by `&` with ones
pub low_by_mask : (W n : ℕ) → bit_and n (ones W) ≡ n % 2 ^ W
low_by_mask W n = and_mask n W

-- a field, by a shift and `&` with ones
pub field_by_mask : (lo len n : ℕ) → bit_and (n / 2 ^ lo) (ones len) ≡ field lo len n
field_by_mask lo len n = and_mask (n / 2 ^ lo) len

-- ones at a field, by a shift of ones
pub ones_shifted : (lo len : ℕ) → ones len * 2 ^ lo ≡ ones_at lo len
ones_shifted lo len =
    let X : ℕ = 2 ^ len - 1 in
    let one_more : 2 ^ len ≡ X + 1 = omega (arith, pow_pos len) in
    omega (arith, pow-add 2 lo len, ap (λ m. 2 ^ lo * m) one_more)

-- the complement of a word, by `^` with ones
pub not_by_xor : (W a : ℕ) → a < 2 ^ W → bit_xor a (ones W) ≡ ones W - a
not_by_xor W a p =
    let both : bit_and a (ones W) ≡ a = and_mask a W ∙ mod_small a W p in
    omega (arith, xor_add_and a (ones W), both, pow_pos W)
