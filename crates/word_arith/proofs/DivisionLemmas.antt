-- Division by words: what SDIV, UDIV and MSUB of extended operands give.
use Rattle.std.proofs.Common.{◌≡◌, ◌≢◌, ℕ, ◌+◌, ◌-◌, ◌*◌, ◌/◌, ◌%◌, ◌^◌, ◌<◌, suc, arith, ap, sym, ◌∙◌, false}
use Rattle.std.specs.Prelude.{ℤ, pos, negsuc, neg_ℤ, ◌-ℤ◌, ◌*ℤ◌, ◌≤ℤ◌, int_div, int_rem, ◌==◌, nat_lt}
use Rattle.std.proofs.lemmas.Int.{ints, quot-rem}
use Rattle.std.proofs.lemmas.Bool.Decides.{nat_tests}
use Rattle.std.proofs.Math.Nat.{div-le_self, mod-add-div'}
use Rattle.word_arith.specs.Width.{IsWidth}
use Rattle.word_arith.specs.Signed.{signed, fits_signed, low_bits, sign_extend}
use Rattle.word_arith.specs.ArmWords.{msub, sdiv}
use Rattle.word_arith.proofs.LowBitsLemmas.{low_bits-sub, low_bits-mul, low_bits-mod}
use Rattle.word_arith.proofs.ExtendLemmas.{signed_extend}
use Rattle.word_arith.proofs.ShiftLemmas.{mod_small}
use Rattle.std.proofs.lemmas.Nat.{mod_low}
use Rattle.word_arith.proofs.OverflowLemmas.{range_by_extension}

-- the remainder is what the quotient's product leaves
pub remainder_is : (n d : ℤ) → int_rem n d ≡ n -ℤ (int_div n d *ℤ d)
remainder_is n d = omega (arith, ints, quot-rem n d)

-- the remainder by MSUB from the quotient
pub remainder_by_msub : (w : ℕ) (n d : ℤ) →
    low_bits w (int_rem n d) ≡ msub w (low_bits w n) (low_bits w (int_div n d)) (low_bits w d)
remainder_by_msub w n d =
    ap (λ z. low_bits w z) (remainder_is n d) ∙ low_bits-sub w n (int_div n d *ℤ d)
    ∙ ap (λ m. (low_bits w n + (2 ^ w - m)) % 2 ^ w) (low_bits-mul w (int_div n d) d)

-- a quotient is no farther from 0 than the dividend
pub quotient_within : (m : ℕ) (n d : ℤ) → neg_ℤ (pos m) ≤ℤ n → n ≤ℤ pos m → (neg_ℤ (pos m) ≤ℤ int_div n d) × (int_div n d ≤ℤ pos m)
quotient_within m (pos a) (pos b) low high = (omega (arith, ints, div-le_self a b), omega (arith, ints, div-le_self a b))
quotient_within m (pos a) (negsuc b) low high = (omega (arith, ints, div-le_self a (suc b)), omega (arith, ints, div-le_self a (suc b)))
quotient_within m (negsuc a) (pos b) low high = (omega (arith, ints, div-le_self (suc a) b), omega (arith, ints, div-le_self (suc a) b))
quotient_within m (negsuc a) (negsuc b) low high =
    (omega (arith, ints, div-le_self (suc a) (suc b)), omega (arith, ints, div-le_self (suc a) (suc b)))

-- what a word means lies within 2 ^ 63
pub signed_within : (W a : ℕ) → IsWidth W → a < 2 ^ W → (neg_ℤ (pos (2 ^ 63)) ≤ℤ signed W a) × (signed W a ≤ℤ pos (2 ^ 63))
unfolding signed
signed_within W a w p = (grind (arith, nat_tests, ints), grind (arith, nat_tests, ints))

-- an extension is 0 only of 0
extended_not_zero : (W a : ℕ) → IsWidth W → a < 2 ^ W → a ≢ 0 → (sign_extend 64 W a == 0) ≡ false
unfolding signed low_bits
extended_not_zero W a w p some = grind (arith, nat_tests, ints)

-- SDIV in 64 bits of two extensions divides what the words mean
pub sdiv_of_extended : (V W n d : ℕ) → IsWidth V → IsWidth W → n < 2 ^ V → d < 2 ^ W → d ≢ 0 →
    sdiv 64 (sign_extend 64 V n) (sign_extend 64 W d) ≡ low_bits 64 (int_div (signed V n) (signed W d))
unfolding sdiv
sdiv_of_extended V W n d v w p q some =
    rw (extended_not_zero W d w q some, signed_extend 64 V n (grind arith) (grind arith) p, signed_extend 64 W d (grind arith) (grind arith) q)

-- whether a quotient fits below 64 bits, from its 64 low bits alone; right also where SDIV gives the least number by -1 back
pub quotient_range : (V W n d : ℕ) → IsWidth V → IsWidth W → W < 64 → n < 2 ^ V →
    fits_signed W (int_div (signed V n) (signed W d))
    ≡ (low_bits 64 (int_div (signed V n) (signed W d)) == sign_extend 64 W (low_bits 64 (int_div (signed V n) (signed W d)) % 2 ^ W))
quotient_range V W n d v w small p =
    let dividend = signed_within V n v p in
    let near = quotient_within (2 ^ 63) (signed V n) (signed W d) dividend.0 dividend.1 in
    range_by_extension W (int_div (signed V n) (signed W d)) w small near.0 near.1

-- the remainder of the words' meanings, by MSUB in 64 bits of the extensions and SDIV's quotient
pub remainder_in_64 : (V W n d : ℕ) → IsWidth W →
    msub 64 (sign_extend 64 V n) (low_bits 64 (int_div (signed V n) (signed W d))) (sign_extend 64 W d) % 2 ^ W
    ≡ low_bits W (int_rem (signed V n) (signed W d))
remainder_in_64 V W n d w =
    ap (λ m. m % 2 ^ W) (sym (remainder_by_msub 64 (signed V n) (signed W d)))
    ∙ low_bits-mod 64 W (int_rem (signed V n) (signed W d)) (grind arith)

-- the remainder without sign, by MSUB from UDIV's quotient
pub plain_remainder_by_msub : (w n d : ℕ) → n < 2 ^ w → n % d ≡ msub w n (n / d) d
plain_remainder_by_msub w n d p =
    let whole : n % d + n / d * d ≡ n = mod-add-div' n d in
    let product : n / d * d < 2 ^ w = omega arith in
    let rest : n % d < 2 ^ w = omega arith in
    let back : n + (2 ^ w - n / d * d) ≡ 1 * 2 ^ w + n % d = omega arith in
    sym (ap (λ m. (n + (2 ^ w - m)) % 2 ^ w) (mod_small (n / d * d) w product) ∙ ap (λ m. m % 2 ^ w) back ∙ mod_low 1 w (n % d) rest)

-- whether a quotient without sign fits, by a shift
pub plain_range : (W q : ℕ) → IsWidth W → nat_lt q (2 ^ W) ≡ (q / 2 ^ W == 0)
plain_range W q w = grind (arith, nat_tests)
