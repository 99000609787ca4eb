-- The values of the formulas of rotates, and what rotates leave of the flags, by the masked count.
use Rattle.std.proofs.Common.{◌≡◌, ℕ, zero, suc, ◌+◌, ◌-◌, ◌*◌, ◌/◌, ◌%◌, ◌^◌, ◌<◌, Bool, arith, refl, ap, sym, ◌∙◌}
use Rattle.std.specs.Prelude.{bit_or, bit_xor, ◌==◌, ◌&&◌, if◌then◌else◌}
use Rattle.std.proofs.lemmas.Nat.{pow_pos, mod_below, and_mask, or_comm, or_lt, xor_comm}
use Rattle.std.proofs.Math.Nat.{div-le_self, div-one, mod-eq_of_lt, mod_self, mul-mod_left}
use Rattle.word_arith.specs.Bits.{bit, differ, top_bit}
use Rattle.word_arith.specs.Turns.{turn_left}
use Rattle.word_arith.proofs.CallerLemmas.{bit-differ, top_bit_is, turn_left_below, turn_left-zero}
use Rattle.alu_width.specs.declared.flags.Flags.{Flags}
use Rattle.alu_width.specs.declared.operations.Rotate.{Rotate}
use Rattle.alu_width.specs.declared.operations.Rotate.TheVariants.{Rol, Ror}
use Rattle.alu_width.specs.Effects.{settled, turn_effects}
use Rattle.alu_width.specs.Masked.{masked}
use Rattle.alu_width.specs.Turns.{turned, rotate_outcome}
use Rattle.alu_width.specs.Turns.{turn_carry as carry_of_turn, turn_overflow as overflow_of_turn}
use Rattle.alu_width.proofs.CallerLemmas.{turned-rol_by_words, turned-rol_by_ror}
use Rattle.x64_syntax.specs.Operands.{bits}
use Rattle.x64_syntax.specs.declared.operand.Width.{Width}
use Rattle.x64_syntax.specs.declared.operand.Width.TheVariants as width
use Rattle.limm_ir.specs.Steps.{IrState}
use Rattle.limm_ir.specs.declared.step.IrOp.TheVariants as ops
use Rattle.lift_alu.specs.declared.shifts.Count.{Count}
use Rattle.lift_alu.specs.declared.shifts.Count.TheVariants.{Fixed, InTemp}
use Rattle.lift_alu.specs.Formulas.{Formula, Number, Operation, value}
use Rattle.lift_alu.specs.Flags.{top}
use Rattle.lift_alu.specs.Shifts.{at_one, lowest_bit}
use Rattle.lift_alu.specs.Turns.{kept_turn, turn, rest_of_turn, whole_turned, parts_turned, turn_formula, turn_carry, turn_overflow}
use Rattle.lift_alu.proofs.OperandValues.{value_clean}
use Rattle.lift_alu.proofs.Words.{is_width, positive, in_64}
use Rattle.lift_alu.proofs.FlagValues.{value_top, parity}
use Rattle.lift_alu.proofs.ShiftValues.{Counts, counts_below, bits_most, taken_from_width, test_of_some, not_one, at_one_is}

-- a count modulo a width is below the width
places_below : (w : Width) (n : ℕ) → n % bits w < bits w
places_below width.Byte n = omega arith
places_below width.Word n = omega arith
places_below width.Long n = omega arith
places_below width.Quad n = omega arith

-- a quotient of a word is a word
down_fits : (v d : ℕ) → v < 2 ^ 64 → v / d < 2 ^ 64
down_fits v d fit = omega (arith, fit, div-le_self v d)

-- turned by the whole width, a value is itself
whole_turn : (W v : ℕ) → v < 2 ^ W → turn_left W v W ≡ v
whole_turn W v fit =
    let none : W - W ≡ 0 = omega arith in
    let back : v / 2 ^ (W - W) ≡ v = ap (λ k. v / 2 ^ k) none ∙ div-one v in
    omega (arith, mul-mod_left v (2 ^ W), back)

-- so far to the left as there are bits left
turn_of_rest : (W v k : ℕ) → v < 2 ^ W → k < W → turn_left W v (W - k) ≡ turn_left W v ((W - k) % W)
turn_of_rest W v zero fit less =
    let whole : W - 0 ≡ W = omega arith in
    ap (λ d. turn_left W v d) whole ∙ whole_turn W v fit ∙ sym (turn_left-zero W v fit)
    ∙ sym (ap (λ d. turn_left W v d) (ap (λ d. d % W) whole ∙ mod_self W))
turn_of_rest W v (suc k) fit less = ap (λ d. turn_left W v d) (sym (mod-eq_of_lt (omega (arith, less))))

-- a turned value fits its width
pub turned_below : (o : Rotate) (w : Width) (v n : ℕ) → v < 2 ^ bits w → turned o (bits w) v (n % bits w) < 2 ^ bits w
turned_below Rol w v n fit = turn_left_below (bits w) v (n % bits w) fit (omega (arith, places_below w n))
turned_below Ror w v n fit =
    turn_left_below (bits w) v ((bits w - n % bits w) % bits w) fit (omega (arith, places_below w (bits w - n % bits w)))

module _ (j : IrState) (w : Width) (c : Count) (n : ℕ) (counts : Counts j c n) (lt : n < counts_below w) where
  -- a kept count modulo the width
  kept_turn_is : (w : Width) (t : ℕ) → j.temps t ≡ n → n < counts_below w → value j (kept_turn w (record { 0 = t })) ≡ n % bits w
  kept_turn_is width.Byte t is lt = and_mask (j.temps t) 3 ∙ ap (λ k. k % 8) is
  kept_turn_is width.Word t is lt = and_mask (j.temps t) 4 ∙ ap (λ k. k % 16) is
  kept_turn_is width.Long t is lt = is ∙ sym (mod-eq_of_lt lt)
  kept_turn_is width.Quad t is lt = is ∙ sym (mod-eq_of_lt lt)

  turn_is : (c : Count) → Counts j c n → value j (turn w c) ≡ n % bits w
  turn_is (Fixed m) is = ap (λ k. k % bits w) is.0
  turn_is (InTemp t) is = kept_turn_is w t.0 is lt

  rest_of_turn_is : (c : Count) → Counts j c n → value j (rest_of_turn w c) ≡ bits w - n % bits w
  rest_of_turn_is (Fixed m) is = ap (λ k. bits w - k % bits w) is.0
  rest_of_turn_is (InTemp t) is =
      ap (λ k. (bits w + (2 ^ 64 - k)) % 2 ^ 64) (kept_turn_is w t.0 is lt)
      ∙ taken_from_width w (n % bits w) (omega (arith, places_below w n))

  -- the places, as shifts take them
  turn_modulo : value j (turn w c) % 64 ≡ n % bits w
  turn_modulo = ap (λ k. k % 64) (turn_is c counts) ∙ mod-eq_of_lt (omega (arith, places_below w n, bits_most w))

  rest_modulo : bits w < 64 → value j (rest_of_turn w c) % 64 ≡ bits w - n % bits w
  rest_modulo narrow = ap (λ k. k % 64) (rest_of_turn_is c counts) ∙ mod-eq_of_lt (omega (arith, narrow))

  -- the parts of a value of fewer bits
  parts_are : (o : Rotate) (a : Formula) → bits w < 64 → value j a < 2 ^ bits w
      → value j (parts_turned o w c a) % 2 ^ bits w ≡ turned o (bits w) (value j a) (n % bits w)
  parts_are Rol a narrow fit =
      let v : ℕ = value j a in
      let k : ℕ = n % bits w in
      ap (λ m. bit_or (v / 2 ^ m) (v * 2 ^ (value j (turn w c) % 64) % 2 ^ 64) % 2 ^ bits w) (rest_modulo narrow)
      ∙ ap (λ m. bit_or (v / 2 ^ (bits w - k)) (v * 2 ^ m % 2 ^ 64) % 2 ^ bits w) turn_modulo
      ∙ ap (λ m. m % 2 ^ bits w) (or_comm (v / 2 ^ (bits w - k)) (v * 2 ^ k % 2 ^ 64))
      ∙ turned-rol_by_words (bits w) v k (is_width w) fit (omega (arith, places_below w n))
  parts_are Ror a narrow fit =
      let v : ℕ = value j a in
      let k : ℕ = n % bits w in
      let back : bits w - (bits w - k) ≡ k = omega (arith, places_below w n) in
      ap (λ m. bit_or (v * 2 ^ m % 2 ^ 64) (v / 2 ^ (value j (turn w c) % 64)) % 2 ^ bits w) (rest_modulo narrow)
      ∙ ap (λ m. bit_or (v * 2 ^ (bits w - k) % 2 ^ 64) (v / 2 ^ m) % 2 ^ bits w) (turn_modulo ∙ sym back)
      ∙ turned-rol_by_words (bits w) v (bits w - k) (is_width w) fit (omega arith)
      ∙ turn_of_rest (bits w) v k fit (places_below w n)

  -- they fit 64 bits
  parts_fit : (o : Rotate) (a : Formula) → value j a < 2 ^ bits w → value j (parts_turned o w c a) < 2 ^ 64
  parts_fit Rol a fit =
      or_lt 64 (value j a / 2 ^ (value j (rest_of_turn w c) % 64)) (value j a * 2 ^ (value j (turn w c) % 64) % 2 ^ 64)
      (down_fits (value j a) (2 ^ (value j (rest_of_turn w c) % 64)) (in_64 (bits w) (value j a) (is_width w) fit))
      (mod_below (value j a * 2 ^ (value j (turn w c) % 64)) (2 ^ 64) (pow_pos 64))
  parts_fit Ror a fit =
      or_lt 64 (value j a * 2 ^ (value j (rest_of_turn w c) % 64) % 2 ^ 64) (value j a / 2 ^ (value j (turn w c) % 64))
      (mod_below (value j a * 2 ^ (value j (rest_of_turn w c) % 64)) (2 ^ 64) (pow_pos 64))
      (down_fits (value j a) (2 ^ (value j (turn w c) % 64)) (in_64 (bits w) (value j a) (is_width w) fit))

-- a value of 64 bits is turned
whole_is : (j : IrState) (c : Count) (n : ℕ) → Counts j c n → n < 64 → (o : Rotate) (a : Formula)
    → value j (whole_turned o c a) ≡ turned o 64 (value j a) (n % 64)
whole_is j c n counts lt Rol a =
    ap (λ k. turn_left 64 (value j a) ((64 - k % 64) % 64)) (rest_of_turn_is j width.Quad c n counts lt c counts)
    ∙ turned-rol_by_ror 64 (value j a) (n % 64) (places_below width.Quad n)
whole_is j c n counts lt Ror a = ap (λ k. turn_left 64 (value j a) ((64 - k) % 64)) (turn_modulo j width.Quad c n counts lt)

-- a value is turned
pub turned_is : (j : IrState) (w : Width) (c : Count) (n : ℕ) → Counts j c n → n < counts_below w → (o : Rotate) (a : Formula)
    → value j a < 2 ^ bits w
    → value j (turn_formula o w c a) ≡ turned o (bits w) (value j a) (n % bits w)
turned_is j width.Byte c n counts lt o a fit =
    value_clean j width.Byte (parts_turned o width.Byte c a) (parts_fit j width.Byte c n counts lt o a fit)
    ∙ parts_are j width.Byte c n counts lt o a (omega arith) fit
turned_is j width.Word c n counts lt o a fit =
    value_clean j width.Word (parts_turned o width.Word c a) (parts_fit j width.Word c n counts lt o a fit)
    ∙ parts_are j width.Word c n counts lt o a (omega arith) fit
turned_is j width.Long c n counts lt o a fit =
    value_clean j width.Long (parts_turned o width.Long c a) (parts_fit j width.Long c n counts lt o a fit)
    ∙ parts_are j width.Long c n counts lt o a (omega arith) fit
turned_is j width.Quad c n counts lt o a fit = whole_is j c n counts lt o a

-- ---- what rotates leave of the flags

module _ (j : IrState) (w : Width) (r : Formula) (fit : value j r < 2 ^ bits w) where
  -- the highest bit of what was turned
  top_is : value j (top w r) ≡ bit (top_bit (bits w) (value j r))
  top_is = value_top w j r ∙ top_bit_is (bits w) (value j r) (positive (bits w) (is_width w)) fit

  -- the lowest bit
  lowest_is : (e : Formula) → value j (lowest_bit e) ≡ bit (value j e % 2 == 1)
  lowest_is e = and_mask (value j e) 1 ∙ parity (value j e)

  -- the bit below the highest one
  second_is : (w : Width) → value j (lowest_bit (Operation ops.Shr r (Number (bits w - 2)))) ≡ bit (value j r / 2 ^ (bits w - 2) % 2 == 1)
  second_is width.Byte = lowest_is (Operation ops.Shr r (Number 6))
  second_is width.Word = lowest_is (Operation ops.Shr r (Number 14))
  second_is width.Long = lowest_is (Operation ops.Shr r (Number 30))
  second_is width.Quad = lowest_is (Operation ops.Shr r (Number 62))

  -- whether two bits differ, the second first
  differ_is : (first second : Formula) (p q : Bool) → value j first ≡ bit p → value j second ≡ bit q
      → value j (Operation ops.Xor second first) ≡ bit (differ p q)
  differ_is first second p q is also =
      ap (λ m. bit_xor m (value j first)) also ∙ ap (λ m. bit_xor (bit q) m) is ∙ xor_comm (bit q) (bit p) ∙ sym (bit-differ p q)

  -- CF
  pub turn_carry_is : (o : Rotate) → value j (turn_carry o w r) ≡ bit (carry_of_turn o (bits w) (value j r))
  turn_carry_is Rol = lowest_is r
  turn_carry_is Ror = top_is

  -- OF of a turn by 1
  turn_overflow_is : (o : Rotate) → value j (turn_overflow o w r) ≡ bit (overflow_of_turn o (bits w) (value j r))
  turn_overflow_is Rol = differ_is (top w r) (lowest_bit r) (top_bit (bits w) (value j r)) (value j r % 2 == 1) top_is (lowest_is r)
  turn_overflow_is Ror =
      differ_is (top w r) (lowest_bit (Operation ops.Shr r (Number (bits w - 2)))) (top_bit (bits w) (value j r))
      (value j r / 2 ^ (bits w - 2) % 2 == 1) top_is (second_is w)

  -- OF where the count is 1, and else 0
  pub turn_overflow_at : (o : Rotate) (c : Count) (n : ℕ) → Counts j c n
      → value j (at_one c (turn_overflow o w r)) ≡ bit ((n == 1) && overflow_of_turn o (bits w) (value j r))
  turn_overflow_at o c n counts =
      at_one_is j c n (turn_overflow o w r) (overflow_of_turn o (bits w) (value j r)) counts (λ one. turn_overflow_is o)

-- the flags after a rotate by the masked count n, of which r came
abbrev pub turn_leaves : Rotate → (W n r : ℕ) → Flags → Flags
turn_leaves o W n r old = record {
  cf = if n == 0 then old.cf else carry_of_turn o W r;
  zf = old.zf;
  sf = old.sf;
  of = if n == 0 then old.of else (n == 1) && overflow_of_turn o W r;
}

-- the table of effects says so
settled_so : (o : Rotate) (W n r : ℕ) (old : Flags)
    → settled (turn_effects n) (record old { cf = carry_of_turn o W r; of = overflow_of_turn o W r }) old ≡ turn_leaves o W n r old
settled_so o W zero r old = refl
settled_so o W (suc zero) r old = refl
settled_so o W (suc (suc n)) r old = rw (test_of_some (suc (suc n)) (omega arith), not_one (suc (suc n)) (omega arith))

pub turn_flags_are : (o : Rotate) (W v count : ℕ) (old : Flags)
    → (rotate_outcome o W v count old).flags ≡ turn_leaves o W (masked W count) (turned o W v (masked W count % W)) old
unfolding rotate_outcome
turn_flags_are o W v count old = settled_so o W (masked W count) (turned o W v (masked W count % W)) old

pub turn_value_is : (o : Rotate) (W v count : ℕ) (old : Flags) → (rotate_outcome o W v count old).value ≡ turned o W v (masked W count % W)
unfolding rotate_outcome
turn_value_is o W v count old = refl
