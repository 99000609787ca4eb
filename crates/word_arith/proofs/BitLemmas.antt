-- The top bit of a word, at any width.
use Rattle.std.proofs.Common.{◌≡◌, ℕ, ◌+◌, ◌-◌, ◌*◌, ◌/◌, ◌^◌, ◌<◌, ◌≤◌, Bool, true, false, arith, refl, ap, ◌∙◌, inl, inr}
use Rattle.std.specs.Prelude.{nat_le, bit_and, bit_xor, ◌&&◌}
use Rattle.std.proofs.lemmas.Bool.Decides.{nat_tests, leb_tells}
use Rattle.std.proofs.lemmas.Nat.{pow_pos, pow-add, and_shr, xor_shr, shr_high, le-div, shr_split}
use Rattle.std.proofs.Math.Nat.{mul-le-mul_right}
use Rattle.word_arith.specs.Bits.{bit, differ, top_bit}

-- 2 ^ W is twice 2 ^ (W - 1)
pub pow_half : (W : ℕ) → 0 < W → 2 ^ W ≡ 2 ^ (W - 1) + 2 ^ (W - 1)
pow_half W h = let e : W ≡ W - 1 + 1 = omega arith in ap (λ n. 2 ^ n) e ∙ pow-add 2 (W - 1) 1 ∙ omega arith

-- the top bit of a word as its quotient by 2 ^ (W - 1)
pub top_bit_is : (W a : ℕ) → 0 < W → a < 2 ^ W → a / 2 ^ (W - 1) ≡ bit (top_bit W a)
unfolding top_bit
top_bit_is W a h p =
    let half = pow_half W h in
    elim (leb_tells (2 ^ (W - 1)) a) [
      | inl w ↦ rw w.0 (let e : a ≡ 1 * 2 ^ (W - 1) + (a - 2 ^ (W - 1)) = omega (arith, w.1) in
          ap (λ n. n / 2 ^ (W - 1)) e ∙ shr_high 1 (W - 1) (a - 2 ^ (W - 1)) (omega (arith, half, w.1)))
      | inr w ↦ rw w.0 (let e : a ≡ 0 * 2 ^ (W - 1) + a = omega arith in
          ap (λ n. n / 2 ^ (W - 1)) e ∙ shr_high 0 (W - 1) a w.1)
    ]

-- two tests of facts that follow from one another
same_test : (m n j k : ℕ) → (m ≤ n → j ≤ k) → (j ≤ k → m ≤ n) → nat_le m n ≡ nat_le j k
same_test m n j k f g = grind (arith, nat_tests)

-- the top bit goes down with a shift to the right
pub top_bit_shr : (W a k : ℕ) → k < W → top_bit (W - k) (a / 2 ^ k) ≡ top_bit W a
unfolding top_bit
top_bit_shr W a k h =
    let e : W - 1 ≡ W - k - 1 + k = omega arith in
    let cut : 2 ^ (W - 1) ≡ 2 ^ (W - k - 1) * 2 ^ k = ap (λ n. 2 ^ n) e ∙ pow-add 2 (W - k - 1) k in
    let split = shr_split a k in
    same_test (2 ^ (W - k - 1)) (a / 2 ^ k) (2 ^ (W - 1)) a
    (λ below. omega (arith, mul-le-mul_right (2 ^ k) below))
    (λ above. le-div (2 ^ (W - k - 1)) a (2 ^ k) (pow_pos k) (omega arith))

-- `&` and `^` of flags as numbers
and_xor_flags : (p q r s : Bool) → bit_and (bit_xor (bit p) (bit q)) (bit_xor (bit r) (bit s)) ≡ bit (differ p q && differ r s)
and_xor_flags false false false false = refl
and_xor_flags false false false true = refl
and_xor_flags false false true false = refl
and_xor_flags false false true true = refl
and_xor_flags false true false false = refl
and_xor_flags false true false true = refl
and_xor_flags false true true false = refl
and_xor_flags false true true true = refl
and_xor_flags true false false false = refl
and_xor_flags true false false true = refl
and_xor_flags true false true false = refl
and_xor_flags true false true true = refl
and_xor_flags true true false false = refl
and_xor_flags true true false true = refl
and_xor_flags true true true false = refl
and_xor_flags true true true true = refl

-- the overflow formula `((a ^ b) & (c ^ d)) >> (W - 1)` tells whether both pairs' top bits differ
pub top_and_xor : (W a b c d : ℕ) → 0 < W → a < 2 ^ W → b < 2 ^ W → c < 2 ^ W → d < 2 ^ W →
    bit_and (bit_xor a b) (bit_xor c d) / 2 ^ (W - 1) ≡ bit (differ (top_bit W a) (top_bit W b) && differ (top_bit W c) (top_bit W d))
top_and_xor W a b c d h p q r s =
    rw (
      and_shr (bit_xor a b) (bit_xor c d) (W - 1),
      xor_shr a b (W - 1),
      xor_shr c d (W - 1),
      top_bit_is W a h p,
      top_bit_is W b h q,
      top_bit_is W c h r,
      top_bit_is W d h s,
    )
    (and_xor_flags (top_bit W a) (top_bit W b) (top_bit W c) (top_bit W d))
