-- Shifts and rotates: the count 0, and the last bit out by a shift of the operand.
use Rattle.std.proofs.Common.{◌≡◌, ℕ, ◌+◌, ◌-◌, ◌*◌, ◌/◌, ◌%◌, ◌^◌, ◌<◌, ◌≤◌, true, false, arith, refl, ap, sym, ◌∙◌}
use Rattle.std.specs.Prelude.{nat_lt, bit_or, ◌||◌, ℤ, pos, negsuc, ◌==◌}
use Rattle.std.specs.Int.{int_div_euclid}
use Rattle.std.proofs.lemmas.Bool.Decides.{nat_tests}
use Rattle.std.proofs.lemmas.Nat.{pow_pos, shr-shr, shl-shr, mod_below, field_of}
use Rattle.std.proofs.Math.Nat.{div-one, mod-eq_of_lt, mod_self}
use Rattle.word_arith.specs.Width.{IsWidth}
use Rattle.word_arith.specs.Bits.{bit, top_bit}
use Rattle.word_arith.specs.Signed.{signed, low_bits, sign_extend}
use Rattle.word_arith.proofs.BitLemmas.{top_bit_is}
use Rattle.word_arith.proofs.ExtendLemmas.{sar_extended}
use Rattle.word_arith.proofs.SignedLemmas.{low_bits_signed}
use Rattle.word_arith.proofs.ShiftLemmas.{mod_small, mod_mod, shl_mod}
use Rattle.word_arith.proofs.TurnLemmas.{turn_left-zero}
use Rattle.alu_width.specs.declared.flags.Flags.{Flags}
use Rattle.alu_width.specs.declared.flags.Outcome.{Outcome}
use Rattle.alu_width.specs.declared.operations.Shift.{Shift}
use Rattle.alu_width.specs.declared.operations.Shift.TheVariants.{Shl, Shr, Sar}
use Rattle.alu_width.specs.declared.operations.Rotate.{Rotate}
use Rattle.alu_width.specs.declared.operations.Rotate.TheVariants.{Rol, Ror}
use Rattle.word_arith.specs.ArmWords.{lslv, lsrv, asrv, rorv}
use Rattle.word_arith.proofs.CallerLemmas.{sum_cut, turn_left_by_right, turn_left_by_shifts}
use Rattle.alu_width.specs.Effects.{is_sar}
use Rattle.alu_width.specs.Masked.{masked}
use Rattle.alu_width.specs.Shifts.{shift_overflow, shifted, last_out, shift_outcome}
use Rattle.alu_width.specs.Turns.{turned, turn_carry, turn_overflow, rotate_outcome}

-- a division by 1 changes nothing
over_one : (z : ℤ) → int_div_euclid z (pos 1) ≡ z
over_one (pos a) = ap pos (div-one a)
over_one (negsuc a) = ap negsuc (div-one a)

-- a shift by 0 changes nothing
pub shifted-zero : (op : Shift) (W a : ℕ) → a < 2 ^ W → shifted op W a 0 ≡ a
shifted-zero Shl W a p = let e : a * 1 ≡ a = omega arith in rw e (mod_small a W p)
shifted-zero Shr W a p = div-one a
shifted-zero Sar W a p = ap (λ z. low_bits W z) (over_one (signed W a)) ∙ low_bits_signed W a p

-- a count over 1 is not 0
not_zero : (n : ℕ) → 1 < n → (n == 0) ≡ false
not_zero n h = grind (arith, nat_tests)

-- nor 1
not_one : (n : ℕ) → 1 < n → (n == 1) ≡ false
not_one n h = grind (arith, nat_tests)

-- a shift by a count whose masked value is 0 leaves the operand and the flags
pub shift_outcome-zero : (op : Shift) (W a count : ℕ) (old : Flags) → a < 2 ^ W → masked W count ≡ 0 →
    shift_outcome op W a count old ≡ record { value = a; flags = old }
unfolding shift_outcome
shift_outcome-zero op W a count old p e =
    rw e (ap (λ v. let o : Outcome = record { value = v; flags = old } in o) (shifted-zero op W a p))

-- a turn by 0 changes nothing
turned-zero : (op : Rotate) (W a : ℕ) → 0 < W → a < 2 ^ W → turned op W a (0 % W) ≡ a
turned-zero Rol W a some p =
    let e : 0 % W ≡ 0 = mod-eq_of_lt some in rw e (turn_left-zero W a p)
turned-zero Ror W a some p =
    let same : W - 0 ≡ W = omega arith in
    let e : (W - 0 % W) % W ≡ 0 = ap (λ m. (W - m) % W) (mod-eq_of_lt some) ∙ ap (λ m. m % W) same ∙ mod_self W in rw e (turn_left-zero W a p)

-- a rotate by a count whose masked value is 0 leaves the operand and the flags
pub rotate_outcome-zero : (op : Rotate) (W a count : ℕ) (old : Flags) → 0 < W → a < 2 ^ W → masked W count ≡ 0 →
    rotate_outcome op W a count old ≡ record { value = a; flags = old }
unfolding rotate_outcome
rotate_outcome-zero op W a count old some p e =
    rw e (ap (λ v. let o : Outcome = record { value = v; flags = old } in o) (turned-zero op W a some p))

-- a flag that tests a number's lowest bit
bit_of_parity : (m : ℕ) → bit (m % 2 == 1) ≡ m % 2
bit_of_parity m = grind (arith, nat_tests)

-- the last bit out of a shift to the left
pub last_out_shl : (W a n : ℕ) → 0 < n → n ≤ W → a < 2 ^ W → bit (last_out Shl W a n) ≡ a / 2 ^ (W - n) % 2
last_out_shl W a n some h p =
    let less : n - 1 ≤ W = omega arith in
    let e : W - (n - 1) ≡ 1 + (W - n) = omega arith in
    let down : W - 1 ≡ n - 1 + (W - n) = omega arith in
    let x : ℕ = a * 2 ^ (n - 1) % 2 ^ W in
    sym (top_bit_is W x (omega arith) (mod_below (a * 2 ^ (n - 1)) (2 ^ W) (pow_pos W)))
    ∙ ap (λ m. x / 2 ^ m) down ∙ sym (shr-shr x (n - 1) (W - n))
    ∙ ap (λ m. m / 2 ^ (n - 1) / 2 ^ (W - n)) (shl_mod W a (n - 1) less)
    ∙ ap (λ m. m / 2 ^ (W - n)) (shl-shr (a % 2 ^ (W - (n - 1))) (n - 1))
    ∙ ap (λ m. a % 2 ^ m / 2 ^ (W - n)) e ∙ field_of a 1 (W - n)

-- the last bit out of a shift to the right by zeros
pub last_out_shr : (W a n : ℕ) → bit (last_out Shr W a n) ≡ a / 2 ^ (n - 1) % 2
last_out_shr W a n = bit_of_parity (a / 2 ^ (n - 1))

-- the last bit out of a shift to the right by the sign, from the extension to 64 bits
pub last_out_sar : (W a n : ℕ) → IsWidth W → a < 2 ^ W →
    bit (last_out Sar W a n) ≡ low_bits 64 (int_div_euclid (signed 64 (sign_extend 64 W a)) (pos (2 ^ (n - 1)))) % 2
last_out_sar W a n w p =
    let x : ℕ = low_bits 64 (int_div_euclid (signed 64 (sign_extend 64 W a)) (pos (2 ^ (n - 1)))) in
    bit_of_parity (shifted Sar W a (n - 1)) ∙ ap (λ m. m % 2) (sym (sar_extended 64 W a (n - 1) (grind arith) (grind arith) p)) ∙ mod_mod x W 1 (grind arith)

-- ---- values by words of 64 bits

-- SHL by a shift in 64 bits, cut
pub shl_by_words : (W a n : ℕ) → IsWidth W → a * 2 ^ n % 2 ^ 64 % 2 ^ W ≡ shifted Shl W a n
shl_by_words W a n w = sum_cut W (a * 2 ^ n) w

-- SAR by a shift of the extension to 64 bits, cut
pub sar_by_words : (W a n : ℕ) → IsWidth W → a < 2 ^ W →
    low_bits 64 (int_div_euclid (signed 64 (sign_extend 64 W a)) (pos (2 ^ n))) % 2 ^ W ≡ shifted Sar W a n
sar_by_words W a n w p = sar_extended 64 W a n (grind arith) (grind arith) p

-- SHL by a count modulo the words' own width is LSLV
pub shifted-shl_is_lslv : (w n k : ℕ) → shifted Shl w n (k % w) ≡ lslv w n k
shifted-shl_is_lslv w n k = refl

-- SHR is LSRV
pub shifted-shr_is_lsrv : (w n k : ℕ) → shifted Shr w n (k % w) ≡ lsrv w n k
shifted-shr_is_lsrv w n k = refl

-- SAR is ASRV
pub shifted-sar_is_asrv : (w n k : ℕ) → shifted Sar w n (k % w) ≡ asrv w n k
shifted-sar_is_asrv w n k = refl

-- ROR is RORV
pub turned-ror_is_rorv : (w n k : ℕ) → turned Ror w n (k % w) ≡ rorv w n k
turned-ror_is_rorv w n k = refl

-- ROL by k is ROR by W - k
pub turned-rol_by_ror : (W a k : ℕ) → k < W → turned Ror W a ((W - k) % W) ≡ turned Rol W a k
turned-rol_by_ror W a k h = turn_left_by_right W a k h

-- ROL by shifts and `|` in 64 bits, cut
pub turned-rol_by_words : (W a k : ℕ) → IsWidth W → a < 2 ^ W → k ≤ W →
    bit_or (a * 2 ^ k % 2 ^ 64) (a / 2 ^ (W - k)) % 2 ^ W ≡ turned Rol W a k
turned-rol_by_words W a k w p h = turn_left_by_shifts 64 W a k (grind arith) p h

-- ---- outcomes by the masked count

-- a shift by 1 defines every flag
pub shift_outcome-one : (op : Shift) (W a count : ℕ) (old : Flags) → masked W count ≡ 1 →
    shift_outcome op W a count old ≡ record {
      value = shifted op W a 1;
      flags = record { cf = last_out op W a 1; zf = shifted op W a 1 == 0; sf = top_bit W (shifted op W a 1); of = shift_overflow op W a };
    }
unfolding shift_outcome
shift_outcome-one op W a count old e = rw e

-- a shift by more than 1 that leaves a carry clears OF, which is undefined
pub shift_outcome-more : (op : Shift) (W a count n : ℕ) (old : Flags) → masked W count ≡ n → 1 < n → (is_sar op || nat_lt n W) ≡ true →
    shift_outcome op W a count old ≡ record {
      value = shifted op W a n;
      flags = record { cf = last_out op W a n; zf = shifted op W a n == 0; sf = top_bit W (shifted op W a n); of = false };
    }
unfolding shift_outcome
shift_outcome-more op W a count n old e more carries = rw (e, not_zero n more, not_one n more, carries)

-- a shift that passes the width clears CF and OF, which are undefined
pub shift_outcome-past : (op : Shift) (W a count n : ℕ) (old : Flags) → masked W count ≡ n → 1 < n → (is_sar op || nat_lt n W) ≡ false →
    shift_outcome op W a count old ≡ record {
      value = shifted op W a n;
      flags = record { cf = false; zf = shifted op W a n == 0; sf = top_bit W (shifted op W a n); of = false };
    }
unfolding shift_outcome
shift_outcome-past op W a count n old e more passes = rw (e, not_zero n more, not_one n more, passes)

-- a rotate by 1 changes CF and OF
pub rotate_outcome-one : (op : Rotate) (W a count : ℕ) (old : Flags) → masked W count ≡ 1 →
    rotate_outcome op W a count old ≡ record {
      value = turned op W a (1 % W);
      flags = record { cf = turn_carry op W (turned op W a (1 % W)); zf = old.zf; sf = old.sf; of = turn_overflow op W (turned op W a (1 % W)) };
    }
unfolding rotate_outcome
rotate_outcome-one op W a count old e = rw e

-- a rotate by more than 1 changes CF and clears OF, which is undefined
pub rotate_outcome-more : (op : Rotate) (W a count n : ℕ) (old : Flags) → masked W count ≡ n → 1 < n →
    rotate_outcome op W a count old ≡ record {
      value = turned op W a (n % W);
      flags = record { cf = turn_carry op W (turned op W a (n % W)); zf = old.zf; sf = old.sf; of = false };
    }
unfolding rotate_outcome
rotate_outcome-more op W a count n old e more = rw (e, not_zero n more, not_one n more)
