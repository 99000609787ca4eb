-- Fields of words, and words with a field replaced, at any width.
use Rattle.std.proofs.Common.{◌≡◌, ℕ, ◌+◌, ◌-◌, ◌*◌, ◌/◌, ◌%◌, ◌^◌, ◌<◌, ◌≤◌, arith, ap, sym, ◌∙◌}
use Rattle.std.specs.Prelude.{bit_and, bit_or}
use Rattle.std.specs.Int.{bit_at}
use Rattle.std.proofs.lemmas.Nat.{pow_pos, pow-add, shr_split, shr-shr, mod_below, shr_below, mul-add-lt, or_shifted, and_mask, and_block, or_block, shr_high, mod_low, and_comm, or_comm}
use Rattle.std.proofs.lemmas.Nat.Bits.{bit_at_cat_low, bit_at_cat_high}
use Rattle.std.proofs.Math.Nat.{pow-le-pow_right}
use Rattle.word_arith.specs.Bits.{field, insert}
use Rattle.word_arith.specs.Masks.{zeros_at}
use Rattle.word_arith.proofs.ShiftLemmas.{pow_split, mod_small}

-- a word with a field replaced, by the bits above the field, the new field and the bits below
pub insert_parts : (lo len n v : ℕ) → insert lo len n v ≡ (n / 2 ^ (lo + len) * 2 ^ len + v) * 2 ^ lo + n % 2 ^ lo
insert_parts lo len n v =
    let e : 2 ^ (lo + len) ≡ 2 ^ lo * 2 ^ len = pow-add 2 lo len in
    omega (arith, ap (λ m. n / 2 ^ (lo + len) * m) e)

-- a word in the same three parts
pub word_parts : (lo len n : ℕ) → n ≡ (n / 2 ^ (lo + len) * 2 ^ len + field lo len n) * 2 ^ lo + n % 2 ^ lo
word_parts lo len n =
    let low = shr_split n lo in
    let mid = shr_split (n / 2 ^ lo) len in
    let up = shr-shr n lo len in
    sym (ap (λ m. (m * 2 ^ len + field lo len n) * 2 ^ lo + n % 2 ^ lo) (sym up) ∙ ap (λ m. m * 2 ^ lo + n % 2 ^ lo) mid ∙ low)

-- the new field is there
pub field-insert : (lo len n v : ℕ) → v < 2 ^ len → field lo len (insert lo len n v) ≡ v
field-insert lo len n v p =
    rw insert_parts (rw (shr_high (n / 2 ^ (lo + len) * 2 ^ len + v) lo (n % 2 ^ lo) (mod_below n (2 ^ lo) (pow_pos lo)))
    (mod_low (n / 2 ^ (lo + len)) len v p))

-- a field put back changes nothing
pub insert-field : (lo len n : ℕ) → insert lo len n (field lo len n) ≡ n
insert-field lo len n = insert_parts lo len n (field lo len n) ∙ sym (word_parts lo len n)

-- a bit below the field stays
pub bit_at-insert_below : (lo len n v i : ℕ) → i < lo → bit_at (insert lo len n v) i ≡ bit_at n i
bit_at-insert_below lo len n v i h =
    ap (λ m. bit_at m i) (insert_parts lo len n v)
    ∙ bit_at_cat_low (n / 2 ^ (lo + len) * 2 ^ len + v) lo (n % 2 ^ lo) i h
    ∙ sym (ap (λ m. bit_at m i) (sym (shr_split n lo)) ∙ bit_at_cat_low (n / 2 ^ lo) lo (n % 2 ^ lo) i h)

-- a bit in the field is the new field's
pub bit_at-insert_inside : (lo len n v i : ℕ) → i < len → bit_at (insert lo len n v) (lo + i) ≡ bit_at v i
bit_at-insert_inside lo len n v i h =
    let low = mod_below n (2 ^ lo) (pow_pos lo) in
    let back : lo + i - lo ≡ i = omega arith in
    ap (λ m. bit_at m (lo + i)) (insert_parts lo len n v)
    ∙ bit_at_cat_high (n / 2 ^ (lo + len) * 2 ^ len + v) lo (n % 2 ^ lo) (lo + i) low (omega arith)
    ∙ ap (λ m. bit_at (n / 2 ^ (lo + len) * 2 ^ len + v) m) back
    ∙ bit_at_cat_low (n / 2 ^ (lo + len)) len v i h

-- a bit above the field stays
pub bit_at-insert_above : (lo len n v i : ℕ) → v < 2 ^ len → lo + len ≤ i → bit_at (insert lo len n v) i ≡ bit_at n i
bit_at-insert_above lo len n v i p h =
    let low = mod_below n (2 ^ lo) (pow_pos lo) in
    let under : v * 2 ^ lo + n % 2 ^ lo < 2 ^ (lo + len) =
    omega (arith, mul-add-lt v (2 ^ lo) (n % 2 ^ lo) (2 ^ len) p low, pow-add 2 lo len) in
    let parts : insert lo len n v ≡ n / 2 ^ (lo + len) * 2 ^ (lo + len) + (v * 2 ^ lo + n % 2 ^ lo) = omega arith in
    ap (λ m. bit_at m i) parts
    ∙ bit_at_cat_high (n / 2 ^ (lo + len)) (lo + len) (v * 2 ^ lo + n % 2 ^ lo) i under h
    ∙ sym (ap (λ m. bit_at m i) (sym (shr_split n (lo + len)))
    ∙ bit_at_cat_high (n / 2 ^ (lo + len)) (lo + len) (n % 2 ^ (lo + len)) i (mod_below n (2 ^ (lo + len)) (pow_pos (lo + len))) h)

-- a word with a field replaced, by shifts and `|`
pub insert_by_shifts : (lo len n v : ℕ) → v < 2 ^ len →
    bit_or (n / 2 ^ (lo + len) * 2 ^ (lo + len)) (bit_or (v * 2 ^ lo) (n % 2 ^ lo)) ≡ insert lo len n v
insert_by_shifts lo len n v p =
    let low = mod_below n (2 ^ lo) (pow_pos lo) in
    let under : v * 2 ^ lo + n % 2 ^ lo < 2 ^ (lo + len) =
    omega (arith, mul-add-lt v (2 ^ lo) (n % 2 ^ lo) (2 ^ len) p low, pow-add 2 lo len) in
    rw (or_shifted v lo (n % 2 ^ lo) low, or_shifted (n / 2 ^ (lo + len)) (lo + len) (v * 2 ^ lo + n % 2 ^ lo) under) (omega arith)

-- the mask of all but a field, by its three parts
zeros_parts : (W lo len : ℕ) → lo + len ≤ W → zeros_at W lo len ≡ ((2 ^ (W - (lo + len)) - 1) * 2 ^ len + 0) * 2 ^ lo + (2 ^ lo - 1)
zeros_parts W lo len h =
    let X : ℕ = 2 ^ (W - (lo + len)) - 1 in
    let one_more : 2 ^ (W - (lo + len)) ≡ X + 1 = omega (arith, pow_pos (W - (lo + len))) in
    let cut = pow-add 2 lo len in
    let whole : 2 ^ W ≡ X * 2 ^ len * 2 ^ lo + 2 ^ (lo + len) =
    omega (arith, pow_split W (lo + len) h, ap (λ m. m * 2 ^ (lo + len)) one_more, ap (λ m. X * m) cut) in
    let wide : 2 ^ lo ≤ 2 ^ (lo + len) = pow-le-pow_right {n = 2} (omega arith) (omega arith) in
    omega (arith, whole, wide, pow_pos lo)

-- a word without a field, by a mask
pub without_by_mask : (W lo len n : ℕ) → lo + len ≤ W → n < 2 ^ W →
    bit_and n (zeros_at W lo len) ≡ (n / 2 ^ (lo + len) * 2 ^ len) * 2 ^ lo + n % 2 ^ lo
without_by_mask W lo len n h p =
    let H : ℕ = 2 ^ (W - (lo + len)) - 1 in
    let low = mod_below n (2 ^ lo) (pow_pos lo) in
    let mid = mod_below (n / 2 ^ lo) (2 ^ len) (pow_pos len) in
    let high : n / 2 ^ (lo + len) < 2 ^ (W - (lo + len)) =
    shr_below n (W - (lo + len)) (lo + len) (let e : W - (lo + len) + (lo + len) ≡ W = omega arith in rw e p) in
    let some = pow_pos lo in
    let n_parts : n ≡ (n / 2 ^ (lo + len) * 2 ^ len + n / 2 ^ lo % 2 ^ len) * 2 ^ lo + n % 2 ^ lo = word_parts lo len n in
    let outer = and_block lo (n / 2 ^ (lo + len) * 2 ^ len + n / 2 ^ lo % 2 ^ len) (H * 2 ^ len + 0) (n % 2 ^ lo) (2 ^ lo - 1) low (omega arith) in
    let inner = and_block len (n / 2 ^ (lo + len)) H (n / 2 ^ lo % 2 ^ len) 0 mid (pow_pos len) in
    let kept : bit_and (n / 2 ^ (lo + len)) H ≡ n / 2 ^ (lo + len) =
    and_mask (n / 2 ^ (lo + len)) (W - (lo + len)) ∙ mod_small (n / 2 ^ (lo + len)) (W - (lo + len)) high in
    let none : bit_and (n / 2 ^ lo % 2 ^ len) 0 ≡ 0 = and_comm (n / 2 ^ lo % 2 ^ len) 0 in
    let rest : bit_and (n % 2 ^ lo) (2 ^ lo - 1) ≡ n % 2 ^ lo = and_mask (n % 2 ^ lo) lo ∙ mod_small (n % 2 ^ lo) lo low in
    ap (λ m. bit_and m (zeros_at W lo len)) n_parts
    ∙ ap (λ m. bit_and ((n / 2 ^ (lo + len) * 2 ^ len + n / 2 ^ lo % 2 ^ len) * 2 ^ lo + n % 2 ^ lo) m) (zeros_parts W lo len h)
    ∙ outer ∙ (rw (inner, kept, none, rest) (omega arith))

-- a word with a field replaced, by a mask and `|`
pub insert_by_mask : (W lo len n v : ℕ) → lo + len ≤ W → n < 2 ^ W → v < 2 ^ len →
    bit_or (bit_and n (zeros_at W lo len)) (v * 2 ^ lo) ≡ insert lo len n v
insert_by_mask W lo len n v h p q =
    let low = mod_below n (2 ^ lo) (pow_pos lo) in
    let e : v * 2 ^ lo ≡ v * 2 ^ lo + 0 = omega arith in
    let block = or_block lo (n / 2 ^ (lo + len) * 2 ^ len) v (n % 2 ^ lo) 0 low (pow_pos lo) in
    let joined = or_shifted (n / 2 ^ (lo + len)) len v q in
    let none : bit_or (n % 2 ^ lo) 0 ≡ n % 2 ^ lo = or_comm (n % 2 ^ lo) 0 in
    ap (λ m. bit_or m (v * 2 ^ lo)) (without_by_mask W lo len n h p)
    ∙ ap (λ m. bit_or ((n / 2 ^ (lo + len) * 2 ^ len) * 2 ^ lo + n % 2 ^ lo) m) e
    ∙ block ∙ ap (λ m. m * 2 ^ lo + bit_or (n % 2 ^ lo) 0) joined
    ∙ ap (λ m. (n / 2 ^ (lo + len) * 2 ^ len + v) * 2 ^ lo + m) none ∙ sym (insert_parts lo len n v)

-- a word with a field replaced is a word
pub insert_below : (W lo len n v : ℕ) → lo + len ≤ W → n < 2 ^ W → v < 2 ^ len → insert lo len n v < 2 ^ W
insert_below W lo len n v h p q =
    let low = mod_below n (2 ^ lo) (pow_pos lo) in
    let high : n / 2 ^ (lo + len) < 2 ^ (W - (lo + len)) =
    shr_below n (W - (lo + len)) (lo + len) (let e : W - (lo + len) + (lo + len) ≡ W = omega arith in rw e p) in
    let under : v * 2 ^ lo + n % 2 ^ lo < 2 ^ (lo + len) =
    omega (arith, mul-add-lt v (2 ^ lo) (n % 2 ^ lo) (2 ^ len) q low, pow-add 2 lo len) in
    let whole = mul-add-lt (n / 2 ^ (lo + len)) (2 ^ (lo + len)) (v * 2 ^ lo + n % 2 ^ lo) (2 ^ (W - (lo + len))) high under in
    omega (arith, whole, pow_split W (lo + len) h)

-- a bit of a field
pub bit_at-field : (lo len n i : ℕ) → i < len → bit_at (field lo len n) i ≡ bit_at n (lo + i)
bit_at-field lo len n i h =
    sym (ap (λ m. m % 2) (sym (shr-shr n lo i)) ∙ ap (λ m. bit_at m i) (sym (shr_split (n / 2 ^ lo) len))
    ∙ bit_at_cat_low (n / 2 ^ lo / 2 ^ len) len (field lo len n) i h)
