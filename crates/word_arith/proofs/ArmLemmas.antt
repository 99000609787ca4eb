-- Parts of words by AArch64's moves of bit fields.
use Rattle.std.proofs.Common.{◌≡◌, ℕ, ◌+◌, ◌-◌, ◌*◌, ◌/◌, ◌%◌, ◌^◌, ◌<◌, ◌≤◌, Bool, true, false, arith, ap, sym, ◌∙◌}
use Rattle.std.specs.Prelude.{pos}
use Rattle.std.specs.Int.{int_div_euclid}
use Rattle.std.proofs.lemmas.Bool.{le-leb, lt-leb}
use Rattle.std.proofs.lemmas.Nat.{pow_pos, pow-add, shr_split, shr_high, shr_below, mod_below}
use Rattle.std.proofs.Math.Nat.{pow-le-pow_right, div-one}
use Rattle.word_arith.specs.Bits.{field, bit, top_bit}
use Rattle.word_arith.specs.Signed.{signed, low_bits, sign_extend, extended}
use Rattle.word_arith.specs.ArmWords.{bitfield_move}
use Rattle.word_arith.proofs.BitLemmas.{top_bit_shr}
use Rattle.word_arith.proofs.ExtendLemmas.{sar_is, sign_extend_is}
use Rattle.word_arith.proofs.ShiftLemmas.{pow_split, mod_small, shl_mod}

-- the bits from `lo` to `hi` moved down to bit 0
pub move_down : (sign : Bool) (w lo hi len n : ℕ) → lo + len ≡ hi + 1 → 0 < len →
    bitfield_move sign w lo hi n ≡ extended sign w len (field lo len n)
unfolding bitfield_move
move_down sign w lo hi len n e some =
    let count : hi - lo + 1 ≡ len = omega arith in
    rw (le-leb lo hi (omega arith), count)

-- the `len` low bits moved up by k
pub move_up : (sign : Bool) (w immr k len n : ℕ) → immr + k ≡ w → 0 < len → len ≤ immr →
    bitfield_move sign w immr (len - 1) n ≡ extended sign immr len (n % 2 ^ len) * 2 ^ k
unfolding bitfield_move
move_up sign w immr k len n e some h =
    let count : len - 1 + 1 ≡ len = omega arith in
    let up : w - immr ≡ k = omega arith in
    rw (lt-leb immr (len - 1) (omega arith), count, up)
    (ap (λ m. extended sign immr len (m % 2 ^ len) * 2 ^ k) (div-one n))

-- UXTB, UXTH and the like: the low bits, by zeros
pub uxt : (w len n : ℕ) → 0 < len → bitfield_move false w 0 (len - 1) n ≡ n % 2 ^ len
uxt w len n some = move_down false w 0 (len - 1) len n (omega arith) some ∙ ap (λ m. m % 2 ^ len) (div-one n)

-- SXTB, SXTH, SXTW: the low bits, by their sign
pub sxt : (w len n : ℕ) → 0 < len → bitfield_move true w 0 (len - 1) n ≡ sign_extend w len (n % 2 ^ len)
sxt w len n some =
    move_down true w 0 (len - 1) len n (omega arith) some ∙ ap (λ m. sign_extend w len (m % 2 ^ len)) (div-one n)

-- the second byte, as x86-64's AH has it
pub second_byte : (w n : ℕ) → bitfield_move false w 8 15 n ≡ n / 2 ^ 8 % 2 ^ 8
second_byte w n = move_down false w 8 15 8 n (omega arith) (omega arith)

-- LSR by a number
pub lsr : (w k n : ℕ) → k < w → n < 2 ^ w → bitfield_move false w k (w - 1) n ≡ n / 2 ^ k
lsr w k n h p =
    let e : w - k + k ≡ w = omega arith in
    move_down false w k (w - 1) (w - k) n (omega arith) (omega arith)
    ∙ mod_small (n / 2 ^ k) (w - k) (shr_below n (w - k) k (rw e p))

-- LSL by a number from 1 on (by 0 it is LSR by 0)
pub lsl : (w k n : ℕ) → 0 < k → k < w → bitfield_move false w (w - k) (w - k - 1) n ≡ n * 2 ^ k % 2 ^ w
lsl w k n some h = move_up false w (w - k) k (w - k) n (omega arith) (omega arith) (omega arith) ∙ sym (shl_mod w n k (omega arith))

-- ASR by a number
pub asr : (w k n : ℕ) → k < w → n < 2 ^ w → bitfield_move true w k (w - 1) n ≡ low_bits w (int_div_euclid (signed w n) (pos (2 ^ k)))
asr w k n h p =
    let e : w - k + k ≡ w = omega arith in
    let small : n / 2 ^ k < 2 ^ (w - k) = shr_below n (w - k) k (rw e p) in
    let b : ℕ = bit (top_bit w n) in
    let short = sign_extend_is w (w - k) (n / 2 ^ k) (omega arith) small in
    let short_b : sign_extend w (w - k) (n / 2 ^ k) ≡ n / 2 ^ k + b * (2 ^ w - 2 ^ (w - k)) =
    short ∙ ap (λ t. n / 2 ^ k + bit t * (2 ^ w - 2 ^ (w - k))) (top_bit_shr w n k h) in
    let long = sign_extend_is (w + k) w n (omega arith) p in
    let wide : 2 ^ (w + k) ≡ 2 ^ w * 2 ^ k = pow-add 2 w k in
    let cut : 2 ^ w ≡ 2 ^ (w - k) * 2 ^ k = pow_split w k (omega arith) in
    let less : 2 ^ (w - k) ≤ 2 ^ w = pow-le-pow_right {n = 2} (omega arith) (omega arith) in
    let d : ℕ = 2 ^ w - 2 ^ (w - k) in
    let d_is : 2 ^ w ≡ d + 2 ^ (w - k) = omega arith in
    let gap : 2 ^ (w + k) - 2 ^ w ≡ d * 2 ^ k = omega (arith, wide, cut, ap (λ m. m * 2 ^ k) d_is) in
    let parts : n + b * (2 ^ (w + k) - 2 ^ w) ≡ (n / 2 ^ k + b * d) * 2 ^ k + n % 2 ^ k =
    omega (arith, shr_split n k, ap (λ m. b * m) gap) in
    move_down true w k (w - 1) (w - k) n (omega arith) (omega arith)
    ∙ ap (λ m. sign_extend w (w - k) m) (mod_small (n / 2 ^ k) (w - k) small)
    ∙ short_b
    ∙ sym (sar_is w n k p ∙ ap (λ m. m / 2 ^ k) (long ∙ parts) ∙ shr_high (n / 2 ^ k + b * d) k (n % 2 ^ k) (mod_below n (2 ^ k) (pow_pos k)))
