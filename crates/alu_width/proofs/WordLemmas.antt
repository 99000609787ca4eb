-- The 128 bits in which the operations compute.
use Rattle.std.proofs.Common.{◌≡◌, ℕ, ◌+◌, ◌-◌, ◌%◌, ◌^◌, ◌<◌, ◌≤◌, arith, ap, sym, ◌∙◌}
use Rattle.std.specs.Prelude.{ℤ, pos, negsuc, bit_and, suc, FitsSigned, int_div, false}
use Rattle.std.specs.Int.{w128, cast_unsigned}
use Rattle.std.proofs.lemmas.Int.{ints}
use Rattle.std.proofs.lemmas.Bool.Decides.{nat_tests}
use Rattle.std.proofs.lemmas.Nat.{and_mask}
use Rattle.word_arith.specs.Width.{IsWidth}
use Rattle.word_arith.specs.Signed.{low_bits, fits_signed}
use Rattle.word_arith.proofs.LowBitsLemmas.{low_bits_is, low_bits_pos}
use Rattle.word_arith.proofs.ShiftLemmas.{pow_split}

-- the low bits of a number of 128 bits are those of its 128 bits
pub low_bits_of_128 : (V : ℕ) (z : ℤ) → V ≤ 128 → FitsSigned w128 z → cast_unsigned w128 z % 2 ^ V ≡ low_bits V z
low_bits_of_128 V (pos n) h fits = sym (low_bits_pos V n)
low_bits_of_128 V (negsuc n) h fits =
    let small : n < 2 ^ 127 = fits.sfits in
    sym (low_bits_is V (negsuc n) (2 ^ (128 - V)) (2 ^ 128 - suc n) (omega (arith, ints, pow_split 128 V h)))

-- the same by a mask of V ones
pub low_bits_by_mask : (V : ℕ) (z : ℤ) (x m : ℕ) → V ≤ 128 → FitsSigned w128 z → x ≡ cast_unsigned w128 z → m + 1 ≡ 2 ^ V → bit_and x m ≡ low_bits V z
low_bits_by_mask V z x m h fits is_x is_m =
    let e : m ≡ 2 ^ V - 1 = omega arith in
    ap (λ v. bit_and x v) e ∙ and_mask x V ∙ ap (λ v. v % 2 ^ V) is_x ∙ low_bits_of_128 V z h fits

-- the quotient of the least number of 128 bits by -1 fits no width
pub least_by_minus_one : (W : ℕ) (n d : ℤ) → IsWidth W → n ≡ negsuc (2 ^ 127 - 1) → d ≡ negsuc 0 → fits_signed W (int_div n d) ≡ false
unfolding fits_signed
least_by_minus_one W n d w p q = rw (p, q) (grind (arith, nat_tests, ints))
