-- Extension by the sign, and division by a power of two that rounds down, at any width.
use Rattle.std.proofs.Common.{◌≡◌, ℕ, ◌+◌, ◌-◌, ◌*◌, ◌/◌, ◌%◌, ◌^◌, ◌<◌, ◌≤◌, Bool, true, false, arith, ap, ◌∙◌, inl, inr, sym}
use Rattle.std.specs.Prelude.{ℤ, pos, negsuc, ◌+ℤ◌, ◌-ℤ◌}
use Rattle.std.specs.Int.{int_div_euclid, bit_at}
use Rattle.std.proofs.lemmas.Bool.{le-leb, lt-leb}
use Rattle.std.proofs.lemmas.Bool.Decides.{nat_tests, leb_tells}
use Rattle.std.proofs.lemmas.Nat.Bits.{bit_at_cat_low, bit_at_cat_high, bit_at_ones, bit_at-zero}
use Rattle.std.proofs.lemmas.Int.{ints}
use Rattle.std.proofs.lemmas.Nat.{pow_pos, pow-add, shr_split, shr_high, shr_below, mod_below}
use Rattle.std.proofs.Math.Nat.{lt_of_mul-lt-mul_right, pow-le-pow_right}
use Rattle.word_arith.specs.Width.{IsWidth}
use Rattle.word_arith.specs.Bits.{bit, top_bit}
use Rattle.word_arith.specs.Signed.{signed, low_bits, sign_extend}
use Rattle.word_arith.proofs.BitLemmas.{pow_half}
use Rattle.word_arith.proofs.SignedLemmas.{signed_is}
use Rattle.word_arith.proofs.LowBitsLemmas.{low_bits_is, low_bits_below, low_bits-mod}
use Rattle.word_arith.proofs.ShiftLemmas.{pow_split, mod_small}

-- the product of a flag and a number
flag_times : (b : Bool) (m : ℕ) → bit b * m ≤ m
flag_times true m = omega arith
flag_times false m = omega arith

-- an extension by the sign puts the top bit into all new bits
pub sign_extend_is : (V W a : ℕ) → W ≤ V → a < 2 ^ W → sign_extend V W a ≡ a + bit (top_bit W a) * (2 ^ V - 2 ^ W)
sign_extend_is V W a h p =
    let b : ℕ = bit (top_bit W a) in
    let wide : 2 ^ W ≤ 2 ^ V = pow-le-pow_right {n = 2} (omega arith) h in
    let most : b * (2 ^ V - 2 ^ W) ≤ 2 ^ V - 2 ^ W = flag_times (top_bit W a) (2 ^ V - 2 ^ W) in
    let cut : 2 ^ V ≡ 2 ^ V - 2 ^ W + 2 ^ W = omega arith in
    let split : b * 2 ^ V ≡ b * (2 ^ V - 2 ^ W) + b * 2 ^ W = omega (arith, ap (λ n. b * n) cut) in
    low_bits_is V (signed W a) b (a + b * (2 ^ V - 2 ^ W)) (omega (arith, ints, signed_is W a, split))
    ∙ mod_small (a + b * (2 ^ V - 2 ^ W)) V (omega arith)

-- an extension is a word of the greater width
pub sign_extend_below : (V W a : ℕ) → sign_extend V W a < 2 ^ V
sign_extend_below V W a = low_bits_below V (signed W a)

-- division by 2 ^ k that rounds down, from a multiple of 2 ^ k that makes the number a natural
pub floor_is : (z : ℤ) (k j m : ℕ) → z +ℤ pos (j * 2 ^ k) ≡ pos m → int_div_euclid z (pos (2 ^ k)) ≡ pos (m / 2 ^ k) -ℤ pos j
floor_is (pos a) k j m e =
    let parts : m ≡ (a / 2 ^ k + j) * 2 ^ k + a % 2 ^ k = omega (arith, ints, e, shr_split a k) in
    let q : m / 2 ^ k ≡ a / 2 ^ k + j = ap (λ n. n / 2 ^ k) parts ∙ shr_high (a / 2 ^ k + j) k (a % 2 ^ k) (mod_below a (2 ^ k) (pow_pos k)) in
    omega (arith, ints, q)
floor_is (negsuc a) k j m e =
    let low = mod_below a (2 ^ k) (pow_pos k) in
    let split = shr_split a k in
    let sum : m + a + 1 ≡ j * 2 ^ k = omega (arith, ints, e) in
    let over : a / 2 ^ k * 2 ^ k < j * 2 ^ k = omega arith in
    let above : a / 2 ^ k < j = lt_of_mul-lt-mul_right (2 ^ k) over in
    let d : ℕ = j - (a / 2 ^ k + 1) in
    let whole : j * 2 ^ k ≡ (a / 2 ^ k + 1 + d) * 2 ^ k = ap (λ n. n * 2 ^ k) (omega arith) in
    let parts : m ≡ d * 2 ^ k + (2 ^ k - 1 - a % 2 ^ k) = omega arith in
    let q : m / 2 ^ k ≡ d = ap (λ n. n / 2 ^ k) parts ∙ shr_high d k (2 ^ k - 1 - a % 2 ^ k) (omega arith) in
    omega (arith, ints, q)

-- a shift to the right by the sign, as a shift of a longer extension: `(sign_extend a) >> k` cut to W bits
pub sar_is : (W a k : ℕ) → a < 2 ^ W → low_bits W (int_div_euclid (signed W a) (pos (2 ^ k))) ≡ sign_extend (W + k) W a / 2 ^ k
sar_is W a k p =
    let b : ℕ = bit (top_bit W a) in
    let long = sign_extend_is (W + k) W a (omega arith) p in
    let E : ℕ = sign_extend (W + k) W a in
    let wide : 2 ^ (W + k) ≡ 2 ^ W * 2 ^ k = pow-add 2 W k in
    let times : b * 2 ^ W * 2 ^ k ≡ b * 2 ^ (W + k) = omega (arith, ap (λ n. b * n) wide) in
    let more : 2 ^ W ≤ 2 ^ (W + k) = pow-le-pow_right {n = 2} (omega arith) (omega arith) in
    let cut : 2 ^ (W + k) ≡ 2 ^ (W + k) - 2 ^ W + 2 ^ W = omega arith in
    let split : b * 2 ^ (W + k) ≡ b * (2 ^ (W + k) - 2 ^ W) + b * 2 ^ W = omega (arith, ap (λ n. b * n) cut) in
    let down = floor_is (signed W a) k (b * 2 ^ W) E (omega (arith, ints, signed_is W a, long, times, split)) in
    let small : E / 2 ^ k < 2 ^ W = shr_below E W k (sign_extend_below (W + k) W a) in
    ap (λ z. low_bits W z) down
    ∙ low_bits_is W (pos (E / 2 ^ k) -ℤ pos (b * 2 ^ W)) b (E / 2 ^ k) (omega (arith, ints))
    ∙ mod_small (E / 2 ^ k) W small

-- an extension keeps the top bit
pub top_bit-sign_extend : (V W a : ℕ) → 0 < W → W ≤ V → a < 2 ^ W → top_bit V (sign_extend V W a) ≡ top_bit W a
unfolding top_bit
top_bit-sign_extend V W a some h p =
    let long = sign_extend_is V W a h p in
    let half = pow_half W some in
    let half_long = pow_half V (omega arith) in
    let less : 2 ^ (W - 1) ≤ 2 ^ (V - 1) = pow-le-pow_right {n = 2} (omega arith) (omega arith) in
    let gap : ℕ = 2 ^ V - 2 ^ W in
    elim (leb_tells (2 ^ (W - 1)) a) [
      | inl w ↦
          let set : bit (top_bit W a) * gap ≡ 1 * gap = ap (λ t. bit t * gap) w.0 in
          le-leb (2 ^ (V - 1)) (sign_extend V W a) (omega (arith, long, set, half, half_long, less, w.1)) ∙ sym w.0
      | inr w ↦
          let clear : bit (top_bit W a) * gap ≡ 0 * gap = ap (λ t. bit t * gap) w.0 in
          lt-leb (2 ^ (V - 1)) (sign_extend V W a) (omega (arith, long, clear, less, w.1)) ∙ sym w.0
    ]

-- an extension means the same
pub signed_extend : (V W a : ℕ) → 0 < W → W ≤ V → a < 2 ^ W → signed V (sign_extend V W a) ≡ signed W a
signed_extend V W a some h p =
    let b : ℕ = bit (top_bit W a) in
    let same : bit (top_bit V (sign_extend V W a)) * 2 ^ V ≡ b * 2 ^ V = ap (λ t. bit t * 2 ^ V) (top_bit-sign_extend V W a some h p) in
    let wide : 2 ^ W ≤ 2 ^ V = pow-le-pow_right {n = 2} (omega arith) h in
    let cut : 2 ^ V ≡ 2 ^ V - 2 ^ W + 2 ^ W = omega arith in
    let split : b * 2 ^ V ≡ b * (2 ^ V - 2 ^ W) + b * 2 ^ W = omega (arith, ap (λ n. b * n) cut) in
    omega (arith, ints, signed_is V (sign_extend V W a), signed_is W a, sign_extend_is V W a h p, same, split)

-- a shift to the right by the sign is that of an extension, cut
pub sar_extended : (V W a k : ℕ) → 0 < W → W ≤ V → a < 2 ^ W →
    low_bits V (int_div_euclid (signed V (sign_extend V W a)) (pos (2 ^ k))) % 2 ^ W ≡ low_bits W (int_div_euclid (signed W a) (pos (2 ^ k)))
sar_extended V W a k some h p =
    ap (λ z. low_bits V (int_div_euclid z (pos (2 ^ k))) % 2 ^ W) (signed_extend V W a some h p)
    ∙ low_bits-mod V W (int_div_euclid (signed W a) (pos (2 ^ k))) h

-- a shift to the right by the sign by W - 1 fills the word with the sign
pub sign_fill : (W a : ℕ) → IsWidth W → a < 2 ^ W →
    low_bits W (int_div_euclid (signed W a) (pos (2 ^ (W - 1)))) ≡ bit (top_bit W a) * (2 ^ W - 1)
unfolding signed low_bits top_bit
sign_fill W a w p = grind (arith, nat_tests, ints)

-- an extension in two parts: the copies of the top bit, and the word
pub sign_extend_parts : (V W a : ℕ) → W ≤ V → a < 2 ^ W → sign_extend V W a ≡ bit (top_bit W a) * (2 ^ (V - W) - 1) * 2 ^ W + a
sign_extend_parts V W a h p =
    let X : ℕ = 2 ^ (V - W) - 1 in
    let one_more : 2 ^ (V - W) ≡ X + 1 = omega (arith, pow_pos (V - W)) in
    let gap : 2 ^ V - 2 ^ W ≡ X * 2 ^ W = omega (arith, pow_split V W h, ap (λ m. m * 2 ^ W) one_more) in
    omega (arith, sign_extend_is V W a h p, ap (λ m. bit (top_bit W a) * m) gap)

-- a bit of the word stays in its extension
pub bit_at-sign_extend_low : (V W a i : ℕ) → W ≤ V → a < 2 ^ W → i < W → bit_at (sign_extend V W a) i ≡ bit_at a i
bit_at-sign_extend_low V W a i h p low =
    ap (λ m. bit_at m i) (sign_extend_parts V W a h p) ∙ bit_at_cat_low (bit (top_bit W a) * (2 ^ (V - W) - 1)) W a i low

-- copies of a flag
copies : (b : Bool) (k i : ℕ) → i < k → bit_at (bit b * (2 ^ k - 1)) i ≡ bit b
copies true k i h = let e : 1 * (2 ^ k - 1) ≡ 2 ^ k - 1 = omega arith in ap (λ m. bit_at m i) e ∙ bit_at_ones k i h
copies false k i h = let e : 0 * (2 ^ k - 1) ≡ 0 = omega arith in ap (λ m. bit_at m i) e ∙ bit_at-zero i

-- a new bit of an extension is the top bit
pub bit_at-sign_extend_high : (V W a i : ℕ) → a < 2 ^ W → W ≤ i → i < V → bit_at (sign_extend V W a) i ≡ bit (top_bit W a)
bit_at-sign_extend_high V W a i p high below =
    ap (λ m. bit_at m i) (sign_extend_parts V W a (omega arith) p)
    ∙ bit_at_cat_high (bit (top_bit W a) * (2 ^ (V - W) - 1)) W a i p high
    ∙ copies (top_bit W a) (V - W) (i - W) (omega arith)
