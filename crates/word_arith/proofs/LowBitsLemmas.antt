-- The low bits of a whole number, and how they go through sums and products.
use Rattle.std.proofs.Common.{◌≡◌, ℕ, ◌+◌, ◌-◌, ◌*◌, ◌/◌, ◌%◌, ◌^◌, ◌<◌, ◌≤◌, arith, refl, ap, sym, ◌∙◌}
use Rattle.std.specs.Prelude.{ℤ, pos, negsuc, ◌+ℤ◌, ◌-ℤ◌, ◌*ℤ◌, unsigned_abs}
use Rattle.std.proofs.lemmas.Nat.{pow_pos, shr_split, mod_below, mod_low}
use Rattle.std.proofs.lemmas.Int.{ints, int_rem_euclid_is}
use Rattle.std.proofs.Math.Nat.{add-mul-mod_self_right}
use borrow.Author.Differences.{up, down, product_is}
use Rattle.word_arith.specs.Signed.{low_bits}
use Rattle.word_arith.proofs.ShiftLemmas.{pow_split}

-- the low bits from a multiple of 2 ^ V that makes the number a natural
pub low_bits_is : (V : ℕ) (z : ℤ) (k m : ℕ) → z +ℤ pos (k * 2 ^ V) ≡ pos m → low_bits V z ≡ m % 2 ^ V
unfolding low_bits
low_bits_is V z k m e = ap unsigned_abs (int_rem_euclid_is z (pos (2 ^ V)) (2 ^ V) k m (pow_pos V) refl e)

-- the low bits of a natural number
pub low_bits_pos : (V n : ℕ) → low_bits V (pos n) ≡ n % 2 ^ V
unfolding low_bits
low_bits_pos V n = refl

-- the low bits fit
pub low_bits_below : (V : ℕ) (z : ℤ) → low_bits V z < 2 ^ V
unfolding low_bits
low_bits_below V (pos a) = mod_below a (2 ^ V) (pow_pos V)
low_bits_below V (negsuc a) = omega (arith, pow_pos V)

-- a number and its low bits differ by a multiple of 2 ^ V
pub low_bits_read : (V : ℕ) (z : ℤ) → (j : ℕ) × (k : ℕ) × (z +ℤ pos (j * 2 ^ V) ≡ pos (low_bits V z) +ℤ pos (k * 2 ^ V))
unfolding low_bits
low_bits_read V (pos a) = (0, a / 2 ^ V, ap pos (omega (arith, shr_split a V)))
low_bits_read V (negsuc a) = (a / 2 ^ V + 1, 0, omega (arith, ints, shr_split a V, mod_below a (2 ^ V) (pow_pos V)))

-- two numbers that differ by a multiple of 2 ^ V have the same low bits
pub low_bits_same : (V : ℕ) (y z : ℤ) (j k : ℕ) → y +ℤ pos (j * 2 ^ V) ≡ z +ℤ pos (k * 2 ^ V) → low_bits V y ≡ low_bits V z
low_bits_same V y z j k e =
    let r = low_bits_read V z in
    let m : ℕ = (k + r.1) * 2 ^ V + low_bits V z in
    low_bits_is V y (j + r.0) m (omega (arith, ints, e, r.2)) ∙ mod_low (k + r.1) V (low_bits V z) (low_bits_below V z)

-- a sum's low bits are those of the sum of the low bits
pub low_bits-add : (V : ℕ) (y z : ℤ) → low_bits V (y +ℤ z) ≡ (low_bits V y + low_bits V z) % 2 ^ V
low_bits-add V y z =
    let r = low_bits_read V y in
    let s = low_bits_read V z in
    let k : ℕ = r.1 + s.1 in
    low_bits_is V (y +ℤ z) (r.0 + s.0) (low_bits V y + low_bits V z + k * 2 ^ V) (omega (arith, ints, r.2, s.2))
    ∙ add-mul-mod_self_right (low_bits V y + low_bits V z) k (2 ^ V)

-- a difference's low bits are those of the difference of the low bits
pub low_bits-sub : (V : ℕ) (y z : ℤ) → low_bits V (y -ℤ z) ≡ (low_bits V y + (2 ^ V - low_bits V z)) % 2 ^ V
low_bits-sub V y z =
    let r = low_bits_read V y in
    let s = low_bits_read V z in
    let k : ℕ = r.1 + s.0 in
    let below = low_bits_below V z in
    low_bits_is V (y -ℤ z) (r.0 + s.1 + 1) (low_bits V y + (2 ^ V - low_bits V z) + k * 2 ^ V) (omega (arith, ints, r.2, s.2, below))
    ∙ add-mul-mod_self_right (low_bits V y + (2 ^ V - low_bits V z)) k (2 ^ V)

-- two numbers that differ by multiples of P from words: so does their product from the words' product
product_read : (P u d u' d' L L' j k j' k' : ℕ) → u + j * P ≡ L + k * P + d → u' + j' * P ≡ L' + k' * P + d' →
    u * u' + d * d' + (L * j' + L' * j + P * (k * j' + j * k')) * P
    ≡ L * L' + (L * k' + L' * k + P * (k * k' + j * j')) * P + (u * d' + d * u')
product_read P u d u' d' L L' j k j' k' e e' =
    omega (arith, ap (λ n. n * u') e, ap (λ n. n * d') e, ap (λ n. n * L) e', ap (λ n. n * (j * P)) e', ap (λ n. n * (k * P)) e')

-- a product's low bits are those of the product of the low bits
pub low_bits-mul : (V : ℕ) (y z : ℤ) → low_bits V (y *ℤ z) ≡ low_bits V y * low_bits V z % 2 ^ V
low_bits-mul V y z =
    let r = low_bits_read V y in
    let s = low_bits_read V z in
    let P : ℕ = 2 ^ V in
    let L : ℕ = low_bits V y in
    let M : ℕ = low_bits V z in
    let k : ℕ = L * s.1 + M * r.1 + P * (r.1 * s.1 + r.0 * s.0) in
    let j : ℕ = L * s.0 + M * r.0 + P * (r.1 * s.0 + r.0 * s.1) in
    let e : up y + r.0 * P ≡ L + r.1 * P + down y = omega (arith, ints, r.2) in
    let f : up z + s.0 * P ≡ M + s.1 * P + down z = omega (arith, ints, s.2) in
    let whole = product_read P (up y) (down y) (up z) (down z) L M r.0 r.1 s.0 s.1 e f in
    let parts = product_is y z in
    low_bits_is V (y *ℤ z) j (L * M + k * P) (omega (arith, ints, whole, parts.0, parts.1))
    ∙ add-mul-mod_self_right (L * M) k P

-- the low bits of the low bits
pub low_bits-mod : (V W : ℕ) (z : ℤ) → W ≤ V → low_bits V z % 2 ^ W ≡ low_bits W z
low_bits-mod V W z h =
    let r = low_bits_read V z in
    let L : ℕ = low_bits V z in
    let cut = pow_split V W h in
    sym (low_bits_is W z (r.0 * 2 ^ (V - W)) (L + r.1 * 2 ^ (V - W) * 2 ^ W)
    (omega (arith, ints, r.2, ap (λ n. r.0 * n) cut, ap (λ n. r.1 * n) cut))
    ∙ add-mul-mod_self_right L (r.1 * 2 ^ (V - W)) (2 ^ W))
