-- Turns of words.
use Rattle.std.proofs.Common.{◌≡◌, ℕ, ◌+◌, ◌-◌, ◌*◌, ◌/◌, ◌%◌, ◌^◌, ◌<◌, ◌≤◌, arith, ap, sym, ◌∙◌, zero, suc}
use Rattle.std.proofs.lemmas.Nat.{pow_pos, shr_below, mod_below, mul-add-lt, or_mod, or_shifted, shr_split, shr_le, shr-shr}
use Rattle.std.specs.Prelude.{bit_or}
use Rattle.std.specs.Int.{bit_at}
use Rattle.std.proofs.lemmas.Nat.Bits.{bit_at_cat_low, bit_at_cat_high}
use Rattle.std.proofs.Math.Nat.{mod-eq_of_lt, mod_self}
use Rattle.word_arith.specs.Turns.{turn_left}
use Rattle.word_arith.proofs.ShiftLemmas.{pow_split, shl_mod, mod_mod, mod_small}

-- a turned word is a word
pub turn_left_below : (W a k : ℕ) → a < 2 ^ W → k ≤ W → turn_left W a k < 2 ^ W
turn_left_below W a k p h =
    let back : a / 2 ^ (W - k) < 2 ^ k = shr_below a k (W - k) (let e : k + (W - k) ≡ W = omega arith in rw e p) in
    let kept : a % 2 ^ (W - k) < 2 ^ (W - k) = mod_below a (2 ^ (W - k)) (pow_pos (W - k)) in
    let under = mul-add-lt (a % 2 ^ (W - k)) (2 ^ k) (a / 2 ^ (W - k)) (2 ^ (W - k)) kept back in
    omega (arith, pow_split W k h, shl_mod W a k h, under)

-- a turned word by its two parts
pub turn_left_parts : (W a k : ℕ) → k ≤ W → turn_left W a k ≡ a % 2 ^ (W - k) * 2 ^ k + a / 2 ^ (W - k)
turn_left_parts W a k h = ap (λ m. m + a / 2 ^ (W - k)) (shl_mod W a k h)

-- a turn by shifts and `|` in V bits, cut to W
pub turn_left_by_shifts : (V W a k : ℕ) → W ≤ V → a < 2 ^ W → k ≤ W →
    bit_or (a * 2 ^ k % 2 ^ V) (a / 2 ^ (W - k)) % 2 ^ W ≡ turn_left W a k
turn_left_by_shifts V W a k wide p h =
    let back : a / 2 ^ (W - k) < 2 ^ k = shr_below a k (W - k) (let e : k + (W - k) ≡ W = omega arith in rw e p) in
    let less : a / 2 ^ (W - k) < 2 ^ W = omega (arith, shr_le a (W - k)) in
    or_mod (a * 2 ^ k % 2 ^ V) (a / 2 ^ (W - k)) W
    ∙ ap (λ m. bit_or m (a / 2 ^ (W - k) % 2 ^ W)) (mod_mod (a * 2 ^ k) V W wide ∙ shl_mod W a k h)
    ∙ ap (λ m. bit_or (a % 2 ^ (W - k) * 2 ^ k) m) (mod_small (a / 2 ^ (W - k)) W less)
    ∙ or_shifted (a % 2 ^ (W - k)) k (a / 2 ^ (W - k)) back
    ∙ sym (turn_left_parts W a k h)

-- the opposite of the opposite turn
there_and_back : (W k : ℕ) → k < W → (W - (W - k) % W) % W ≡ k
there_and_back W zero h =
    let whole : W - 0 ≡ W = omega arith in
    let none : (W - 0) % W ≡ 0 = ap (λ m. m % W) whole ∙ mod_self W in
    ap (λ m. (W - m) % W) none ∙ none
there_and_back W (suc k) h =
    let less : W - suc k < W = omega arith in
    let back : W - (W - suc k) ≡ suc k = omega arith in
    ap (λ m. (W - m) % W) (mod-eq_of_lt less) ∙ ap (λ m. m % W) back ∙ mod-eq_of_lt h

-- a turn by 0 changes nothing
pub turn_left-zero : (W a : ℕ) → a < 2 ^ W → turn_left W a 0 ≡ a
turn_left-zero W a p =
    let e : W - 0 ≡ W = omega arith in
    let small : a / 2 ^ W ≡ 0 = omega (arith, shr_below a 0 W (let f : 0 + W ≡ W = omega arith in rw f p)) in
    turn_left_parts W a 0 (omega arith) ∙ (rw (e, mod_small a W p, small) (omega arith))

-- a bit that does not pass the top goes up by k
pub bit_at-turn_left_low : (W a k i : ℕ) → a < 2 ^ W → i + k < W → bit_at (turn_left W a k) (i + k) ≡ bit_at a i
bit_at-turn_left_low W a k i p h =
    let back : a / 2 ^ (W - k) < 2 ^ k = shr_below a k (W - k) (let e : k + (W - k) ≡ W = omega arith in rw e p) in
    let down : i + k - k ≡ i = omega arith in
    ap (λ m. bit_at m (i + k)) (turn_left_parts W a k (omega arith))
    ∙ bit_at_cat_high (a % 2 ^ (W - k)) k (a / 2 ^ (W - k)) (i + k) back (omega arith)
    ∙ ap (λ m. bit_at (a % 2 ^ (W - k)) m) down
    ∙ sym (ap (λ m. bit_at m i) (sym (shr_split a (W - k))) ∙ bit_at_cat_low (a / 2 ^ (W - k)) (W - k) (a % 2 ^ (W - k)) i (omega arith))

-- a bit that passes the top comes in at the bottom
pub bit_at-turn_left_high : (W a k i : ℕ) → k ≤ W → i < k → bit_at (turn_left W a k) i ≡ bit_at a (W - k + i)
bit_at-turn_left_high W a k i h low =
    ap (λ m. bit_at m i) (turn_left_parts W a k h)
    ∙ bit_at_cat_low (a % 2 ^ (W - k)) k (a / 2 ^ (W - k)) i low
    ∙ ap (λ m. m % 2) (shr-shr a (W - k) i)

-- a turn to the left by the opposite turn to the right, k below W
pub turn_left_by_right : (W a k : ℕ) → k < W → turn_left W a ((W - (W - k) % W) % W) ≡ turn_left W a k
turn_left_by_right W a k h = ap (λ m. turn_left W a m) (there_and_back W k h)
