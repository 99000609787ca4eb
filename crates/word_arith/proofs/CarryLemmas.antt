-- Carry and borrow at the four widths, by comparisons and shifts of words.
use Rattle.std.proofs.Common.{◌≡◌, ℕ, ◌+◌, ◌-◌, ◌/◌, ◌%◌, ◌^◌, ◌<◌, arith}
use Rattle.std.specs.Prelude.{nat_le, nat_lt, ◌==◌, ◌||◌, not}
use Rattle.std.proofs.lemmas.Bool.Decides.{nat_tests}
use Rattle.word_arith.specs.Width.{IsWidth}
use Rattle.word_arith.specs.Bits.{bit}

-- a sum carries where its W bits are below an operand
pub carry_below : (W a b : ℕ) → IsWidth W → a < 2 ^ W → b < 2 ^ W → nat_le (2 ^ W) (a + b) ≡ nat_lt ((a + b) % 2 ^ W) a
carry_below W a b w p q = grind (arith, nat_tests)

-- a sum with a carry in carries where its W bits are at most an operand
pub carry_at_most : (W a b : ℕ) → IsWidth W → a < 2 ^ W → b < 2 ^ W → nat_le (2 ^ W) (a + b + 1) ≡ nat_le ((a + b + 1) % 2 ^ W) a
carry_at_most W a b w p q = grind (arith, nat_tests)

-- the carry is bit W of the exact sum
pub carry_by_shift : (W a b c : ℕ) → IsWidth W → a < 2 ^ W → b < 2 ^ W → c < 2 → bit (nat_le (2 ^ W) (a + b + c)) ≡ (a + b + c) / 2 ^ W
carry_by_shift W a b c w p q r = grind (arith, nat_tests)

-- the W low bits of 64 bits
pub sum_cut : (W n : ℕ) → IsWidth W → n % 2 ^ 64 % 2 ^ W ≡ n % 2 ^ W
sum_cut W n w = grind arith

-- a difference in 64 bits, cut to W
pub difference_cut : (W a b : ℕ) → IsWidth W → a < 2 ^ W → b < 2 ^ W → (a + (2 ^ 64 - b)) % 2 ^ 64 % 2 ^ W ≡ (a + (2 ^ W - b)) % 2 ^ W
difference_cut W a b w p q = grind arith

-- a difference with a borrow in, in 64 bits, cut to W
pub difference_cut_borrow : (W a b c : ℕ) → IsWidth W → a < 2 ^ W → b < 2 ^ W → c < 2 → (a + (2 ^ 64 - b) + (2 ^ 64 - c)) % 2 ^ 64 % 2 ^ W ≡ (a + (2 ^ W - (b + c))) % 2 ^ W
difference_cut_borrow W a b c w p q r = grind arith

-- a difference of W bits is 0 where its operands are equal
pub difference_is_zero : (W a b : ℕ) → IsWidth W → a < 2 ^ W → b < 2 ^ W → (((a + (2 ^ W - b)) % 2 ^ W) == 0) ≡ (a == b)
difference_is_zero W a b w p q = grind (arith, nat_tests)

-- a difference with a borrow in borrows where the first operand is at most the second
pub borrow_at_most : (a b : ℕ) → nat_lt a (b + 1) ≡ nat_le a b
borrow_at_most a b = grind (arith, nat_tests)

-- a difference does not borrow where the second operand is at most the first
pub no_borrow : (a b : ℕ) → not (nat_lt a b) ≡ nat_le b a
no_borrow a b = grind (arith, nat_tests)

-- a sum with a carry in carries in one of its two steps
pub carry_in_steps : (W a b c : ℕ) → IsWidth W → a < 2 ^ W → b < 2 ^ W → c < 2 →
    nat_le (2 ^ W) (a + b + c) ≡ (nat_lt ((a + b) % 2 ^ W) a || nat_lt ((a + b + c) % 2 ^ W) ((a + b) % 2 ^ W))
carry_in_steps W a b c w p q r = grind (arith, nat_tests)

-- a difference with a borrow in borrows in one of its two steps
pub borrow_in_steps : (W a b c : ℕ) → IsWidth W → a < 2 ^ W → b < 2 ^ W → c < 2 →
    nat_lt a (b + c) ≡ (nat_lt a b || nat_lt ((a + (2 ^ W - b)) % 2 ^ W) c)
borrow_in_steps W a b c w p q r = grind (arith, nat_tests)
