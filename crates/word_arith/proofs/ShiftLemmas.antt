-- Shifts of words as products and quotients by powers of two.
use Rattle.std.proofs.Common.{◌≡◌, ℕ, ◌+◌, ◌-◌, ◌*◌, ◌/◌, ◌%◌, ◌^◌, ◌<◌, ◌≤◌, arith, ap, sym, ◌∙◌, add-zero}
use Rattle.std.proofs.lemmas.Nat.{pow_pos, pow-add, mod-pow-add, shl-shr, mod_low, mod_below}

-- a power cut in two
pub pow_split : (W k : ℕ) → k ≤ W → 2 ^ W ≡ 2 ^ (W - k) * 2 ^ k
pow_split W k h = let e : W ≡ W - k + k = omega arith in ap (λ n. 2 ^ n) e ∙ pow-add 2 (W - k) k

-- a shift to the left by k keeps the W - k low bits
pub shl_mod : (W a k : ℕ) → k ≤ W → a * 2 ^ k % 2 ^ W ≡ a % 2 ^ (W - k) * 2 ^ k
shl_mod W a k h =
    let e : W ≡ W - k + k = omega arith in
    let cut = mod-pow-add (a * 2 ^ k) (W - k) k in
    let up : a * 2 ^ k / 2 ^ k ≡ a = shl-shr a k in
    let none : a * 2 ^ k % 2 ^ k ≡ 0 = ap (λ n. n % 2 ^ k) (sym (add-zero (a * 2 ^ k))) ∙ mod_low a k 0 (pow_pos k) in
    ap (λ n. a * 2 ^ k % 2 ^ n) e ∙ (rw (none, up) at cut) ∙ omega arith

-- the low bits of the low bits
pub mod_mod : (n V W : ℕ) → W ≤ V → n % 2 ^ V % 2 ^ W ≡ n % 2 ^ W
mod_mod n V W h =
    let e : V ≡ V - W + W = omega arith in
    ap (λ m. n % 2 ^ m % 2 ^ W) e ∙ ap (λ m. m % 2 ^ W) (mod-pow-add n (V - W) W)
    ∙ mod_low (n / 2 ^ W % 2 ^ (V - W)) W (n % 2 ^ W) (mod_below n (2 ^ W) (pow_pos W))

-- a word is its own low bits
pub mod_small : (n W : ℕ) → n < 2 ^ W → n % 2 ^ W ≡ n
mod_small n W h = let e : n ≡ 0 * 2 ^ W + n = omega arith in ap (λ m. m % 2 ^ W) e ∙ mod_low 0 W n h
