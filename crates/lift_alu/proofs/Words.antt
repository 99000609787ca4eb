-- Widths as numbers of bits, and the arithmetic of their words that formulas compute.
use Rattle.std.proofs.Common.{◌≡◌, ℕ, ◌+◌, ◌-◌, ◌%◌, ◌^◌, ◌<◌, Bool, true, false, arith, refl, ap, sym, ◌∙◌, inl, inr, of_z, w64}
use Rattle.std.specs.Prelude.{suc, ℤ, pos, negsuc, ◌+ℤ◌, FitsSigned, nat_le, nat_lt, ◌==◌, ◌&&◌, ◌||◌, bit_and, bit_or}
use Rattle.std.proofs.lemmas.Bool.Decides.{nat_tests}
use Rattle.std.proofs.lemmas.Int.{ints}
use Rattle.word_arith.specs.Bits.{bit}
use Rattle.word_arith.specs.Signed.{low_bits}
use Rattle.word_arith.specs.Width.{IsWidth}
use Rattle.word_arith.proofs.CallerLemmas.{bit-and, bit-or, low_bits_is, low_bits_pos}
use Rattle.x64_syntax.specs.Operands.{bits}
use Rattle.x64_syntax.specs.declared.operand.Width.{Width}
use Rattle.x64_syntax.specs.declared.operand.Width.TheVariants as width

-- a width has 8, 16, 32 or 64 bits
pub is_width : (w : Width) → IsWidth (bits w)
is_width width.Byte = inl refl
is_width width.Word = inr (inl refl)
is_width width.Long = inr (inr (inl refl))
is_width width.Quad = inr (inr (inr refl))

-- a word of a width is one of 64 bits
pub in_64 : (W n : ℕ) → IsWidth W → n < 2 ^ W → n < 2 ^ 64
in_64 W n w fit = grind arith

-- a width has bits
pub positive : (W : ℕ) → IsWidth W → 0 < W
positive W w = grind arith

-- 1 is a word of each width
pub one_fits : (W : ℕ) → IsWidth W → 1 < 2 ^ W
one_fits W w = grind arith

-- 0 is a word of each width
pub zero_fits : (W : ℕ) → IsWidth W → 0 < 2 ^ W
zero_fits W w = grind arith

-- a sum with a carry in two steps of 64 bits, cut to W
pub sum_in_steps : (W a b c : ℕ) → IsWidth W → ((a + b) % 2 ^ 64 + c) % 2 ^ 64 % 2 ^ W ≡ (a + b + c) % 2 ^ 64 % 2 ^ W
sum_in_steps W a b c w = grind arith

-- a difference with a borrow in two steps of 64 bits, cut to W
pub difference_in_steps : (W a b c : ℕ) → IsWidth W → a < 2 ^ W → b < 2 ^ W → c < 2 →
    ((a + (2 ^ 64 - b)) % 2 ^ 64 + (2 ^ 64 - c)) % 2 ^ 64 % 2 ^ W ≡ (a + (2 ^ 64 - b) + (2 ^ 64 - c)) % 2 ^ 64 % 2 ^ W
difference_in_steps W a b c w p q one = grind arith

-- a sum with a carry in carries where it is below the first operand, or is that operand and there was a carry
pub carry_of_sum : (W a b : ℕ) (carry : Bool) → IsWidth W → a < 2 ^ W → b < 2 ^ W →
    nat_le (2 ^ W) (a + b + bit carry) ≡ (((a + b + bit carry) % 2 ^ W == a) && carry || nat_lt ((a + b + bit carry) % 2 ^ W) a)
carry_of_sum W a b true w p q = grind (arith, nat_tests)
carry_of_sum W a b false w p q = grind (arith, nat_tests)

-- a difference with a borrow in borrows where the first operand is less, or both are the same and there was a borrow
pub borrow_of_difference : (a b : ℕ) (borrow : Bool) → nat_lt a (b + bit borrow) ≡ ((a == b) && borrow || nat_lt a b)
borrow_of_difference a b true = grind (arith, nat_tests)
borrow_of_difference a b false = grind (arith, nat_tests)

-- two tests of which one stands behind a flag, as words
pub bit-and-or : (a b c : Bool) → bit (a && b || c) ≡ bit_or (bit_and (bit a) (bit b)) (bit c)
bit-and-or a b c = bit-or (a && b) c ∙ ap (λ m. bit_or m (bit c)) (bit-and a b)

-- a sum with a signed offset that wraps
pub offset_sum : (n : ℕ) (offset : ℤ) → FitsSigned w64 offset → (n + of_z w64 offset) % 2 ^ 64 ≡ low_bits 64 (pos n +ℤ offset)
offset_sum n (pos m) fits = sym (low_bits_pos 64 (n + m))
offset_sum n (negsuc m) fits = sym (low_bits_is 64 (pos n +ℤ negsuc m) 1 (n + (2 ^ 64 - suc m)) (omega (arith, ints, fits)))
