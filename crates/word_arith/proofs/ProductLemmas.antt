-- Products with sign by products of words.
use Rattle.std.proofs.Common.{◌≡◌, ℕ, ◌*◌, ◌%◌, ◌^◌, ◌<◌, ◌≤◌, ap, sym, ◌∙◌, ◌+◌, ◌-◌, arith}
use Rattle.std.specs.Prelude.{ℤ, pos, negsuc, neg_ℤ, ◌*ℤ◌, ◌≤ℤ◌, unsigned_abs}
use Rattle.std.proofs.lemmas.Bool.Decides.{nat_tests}
use Rattle.std.proofs.lemmas.Int.{ints, unsigned_abs-mul}
use Rattle.std.proofs.lemmas.Nat.{pow-add, mul-lt, mul-le}
use Rattle.word_arith.specs.Width.{IsWidth}
use Rattle.word_arith.specs.Signed.{signed, low_bits, sign_extend}
use Rattle.word_arith.proofs.SignedLemmas.{low_bits_signed}
use Rattle.word_arith.proofs.LowBitsLemmas.{low_bits-mod, low_bits-mul}

-- the low half of a product is the same with sign as without
pub product_low : (V W a b : ℕ) → W ≤ V → a < 2 ^ W → b < 2 ^ W →
    low_bits V (signed W a *ℤ signed W b) % 2 ^ W ≡ a * b % 2 ^ W
product_low V W a b h p q =
    low_bits-mod V W (signed W a *ℤ signed W b) h ∙ low_bits-mul W (signed W a) (signed W b)
    ∙ ap (λ m. m * low_bits W (signed W b) % 2 ^ W) (low_bits_signed W a p)
    ∙ ap (λ m. a * m % 2 ^ W) (low_bits_signed W b q)

-- a product with sign is that of the extensions
pub product_of_extended : (V W a b : ℕ) →
    low_bits V (signed W a *ℤ signed W b) ≡ sign_extend V W a * sign_extend V W b % 2 ^ V
product_of_extended V W a b = low_bits-mul V (signed W a) (signed W b)

-- a double product of at most 64 bits, from the product of the extensions in 64 bits
pub product_in_64 : (V W a b : ℕ) → V ≤ 64 →
    sign_extend 64 W a * sign_extend 64 W b % 2 ^ 64 % 2 ^ V ≡ low_bits V (signed W a *ℤ signed W b)
product_in_64 V W a b h =
    ap (λ m. m % 2 ^ V) (sym (product_of_extended 64 W a b)) ∙ low_bits-mod 64 V (signed W a *ℤ signed W b) h

-- a product of words fits twice the bits
pub product_below : (W a b : ℕ) → a < 2 ^ W → b < 2 ^ W → a * b < 2 ^ (2 * W)
product_below W a b p q =
    let e : 2 * W ≡ W + W = omega arith in
    rw e (rw (pow-add 2 W W) (mul-lt a b (2 ^ W) (2 ^ W) p q))

-- a word means at most 2 ^ (W - 1) to either side of 0
pub signed_magnitude : (W a : ℕ) → IsWidth W → a < 2 ^ W → unsigned_abs (signed W a) ≤ 2 ^ (W - 1)
unfolding signed
signed_magnitude W a w p = grind (arith, nat_tests, ints)

-- a number lies within its magnitude
within_magnitude : (z : ℤ) (m : ℕ) → unsigned_abs z ≤ m → (neg_ℤ (pos m) ≤ℤ z) × (z ≤ℤ pos m)
within_magnitude (pos n) m h = (omega (arith, ints, h), omega (arith, ints, h))
within_magnitude (negsuc n) m h = (omega (arith, ints, h), omega (arith, ints, h))

-- a product of meanings lies within 2 ^ (2 * W - 2)
pub product_within : (W a b : ℕ) → IsWidth W → a < 2 ^ W → b < 2 ^ W →
    (neg_ℤ (pos (2 ^ (2 * W - 2))) ≤ℤ (signed W a *ℤ signed W b)) × ((signed W a *ℤ signed W b) ≤ℤ pos (2 ^ (2 * W - 2)))
product_within W a b w p q =
    let e : 2 * W - 2 ≡ W - 1 + (W - 1) = grind arith in
    let most : unsigned_abs (signed W a *ℤ signed W b) ≤ 2 ^ (2 * W - 2) =
    rw (unsigned_abs-mul (signed W a) (signed W b), e, pow-add 2 (W - 1) (W - 1))
    (mul-le (unsigned_abs (signed W a)) (unsigned_abs (signed W b)) (2 ^ (W - 1)) (2 ^ (W - 1)) (signed_magnitude W a w p) (signed_magnitude W b w q)) in
    within_magnitude (signed W a *ℤ signed W b) (2 ^ (2 * W - 2)) most
