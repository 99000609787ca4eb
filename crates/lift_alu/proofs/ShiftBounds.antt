-- The formulas of shifts and rotates take few temporaries at once and cost little.
use Rattle.std.proofs.Common.{ℕ, ◌+◌, ◌-◌, ◌%◌, ◌^◌, ◌<◌, ◌≤◌, ◌==◌, List, arith}
use Rattle.std.specs.Prelude.{nat_lt}
use Rattle.alu_width.specs.declared.operations.Rotate.{Rotate}
use Rattle.alu_width.specs.declared.operations.Rotate.TheVariants.{Rol, Ror}
use Rattle.alu_width.specs.declared.operations.Shift.{Shift}
use Rattle.alu_width.specs.declared.operations.Shift.TheVariants.{Shl, Shr, Sar}
use Rattle.x64_syntax.specs.Operands.{bits}
use Rattle.x64_syntax.specs.declared.operand.Reg.{Reg}
use Rattle.x64_syntax.specs.declared.operand.Width.{Width}
use Rattle.x64_syntax.specs.declared.operand.Width.TheVariants as width
use Rattle.limm_ir.specs.declared.step.IrOp.TheVariants as ops
use Rattle.limm_ir.specs.declared.step.Temp.{Temp}
use Rattle.lift_alu.specs.declared.shifts.Count.{Count}
use Rattle.lift_alu.specs.declared.shifts.Count.TheVariants.{Fixed, InTemp}
use Rattle.lift_alu.specs.Formulas.{Formula, Kept, Number, Operation}
use Rattle.lift_alu.specs.Operands.{with_sign}
use Rattle.lift_alu.specs.Shifts.{masked_formula, amount, one_less, rest_of_width, kept_below_width, below_width, at_one, unless_zero}
use Rattle.lift_alu.specs.Shifts.{lowest_bit, shift_formula, shift_carry, shift_overflow}
use Rattle.lift_alu.specs.Turns.{kept_turn, turn, rest_of_turn, whole_turned, parts_turned, turn_formula, turn_carry, turn_overflow}
use Rattle.lift_alu.proofs.Tame.{Among}
use Rattle.lift_alu.proofs.Modest.{ordinary, own_one, Within, within_more}
use Rattle.lift_alu.proofs.Bounds.{number_small, kept_within, small_within, clean_within, with_sign_within, top_within, chosen_within}
use Rattle.lift_alu.proofs.ShiftValues.{bits_most}

-- the masked count in a register
pub masked_within : (live : List ℕ) (w : Width) (r : Reg) → r.number < 16 → Within live 3 3 (masked_formula w r)
masked_within live width.Byte r is = record { sound = (is, tt, ordinary (λ k. tt)); in_room = omega arith; in_price = omega arith }
masked_within live width.Word r is = record { sound = (is, tt, ordinary (λ k. tt)); in_room = omega arith; in_price = omega arith }
masked_within live width.Long r is = record { sound = (is, tt, ordinary (λ k. tt)); in_room = omega arith; in_price = omega arith }
masked_within live width.Quad r is = record { sound = (is, tt, ordinary (λ k. tt)); in_room = omega arith; in_price = omega arith }

module _ (live : List ℕ) where
  -- a count that may be read
  abbrev pub IsReadable : Count → Type 0
  IsReadable (Fixed n) = n < 64
  IsReadable (InTemp t) = Among live t.0

  -- the count, one less, and the bits of a width without it
  amount_within : (c : Count) → IsReadable c → Within live 1 1 (amount c)
  amount_within (Fixed n) is = small_within live n (omega (arith, is))
  amount_within (InTemp t) is = within_more (omega arith) (omega arith) (kept_within live t.0 is)

  one_less_within : (c : Count) → IsReadable c → Within live 2 2 (one_less c)
  one_less_within (Fixed n) is = within_more (omega arith) (omega arith) (small_within live (n - 1) (omega (arith, is)))
  one_less_within (InTemp t) is = record { sound = (is, tt, ordinary (λ k. tt)); in_room = omega arith; in_price = omega arith }

  -- the bits of a width are a small number
  bits_small : (w : Width) → bits w < 2 ^ 16
  bits_small w = omega (arith, bits_most w)

  rest_within : (w : Width) (c : Count) → IsReadable c → Within live 2 2 (rest_of_width w c)
  rest_within w (Fixed n) is = within_more (omega arith) (omega arith) (small_within live (bits w - n) (omega (arith, bits_most w)))
  rest_within w (InTemp t) is =
      record { sound = (tt, is, ordinary (λ k. tt)); in_room = omega arith; in_price = omega (arith, number_small (bits w) (bits_small w)) }

  module _ {most_room most_price : ℕ} (e : Formula) (wide : 3 ≤ most_room) (h : Within live most_room most_price e) where
    -- the lowest bit
    lowest_within : Within live most_room (most_price + 2) (lowest_bit e)
    lowest_within =
        record {
          sound = (h.sound, tt, ordinary (λ k. tt));
          in_room = omega (arith, wide, h.in_room, own_one e);
          in_price = omega (arith, h.in_price);
        }

    -- a formula or 0
    or_zero_within : (most : ℕ) → 1 ≤ most → most_price ≤ most → Within live most_room most (Number 0) × Within live most_room most e
    or_zero_within most some dear =
        (within_more (omega (arith, wide)) some (small_within live 0 (omega arith)), within_more (omega arith) dear h)

    -- a flag where the count is below the width
    kept_below_within : (w : Width) (t : Temp) → Among live t.0 → Within live most_room (most_price + 4) (kept_below_width w t e)
    kept_below_within width.Byte t is = record {
      sound = (h.sound, (is, tt, ordinary (λ k. tt)), ordinary (λ k. tt));
      in_room = omega (arith, wide, h.in_room, own_one e);
      in_price = omega (arith, h.in_price);
    }
    kept_below_within width.Word t is = record {
      sound = (h.sound, (is, tt, ordinary (λ k. tt)), ordinary (λ k. tt));
      in_room = omega (arith, wide, h.in_room, own_one e);
      in_price = omega (arith, h.in_price);
    }
    kept_below_within width.Long t is = within_more (omega arith) (omega arith) h
    kept_below_within width.Quad t is = within_more (omega arith) (omega arith) h

    below_width_within : (w : Width) (c : Count) → IsReadable c → Within live most_room (most_price + 4) (below_width w c e)
    below_width_within w (Fixed n) is =
        let both = or_zero_within (most_price + 4) (omega arith) (omega arith) in chosen_within live (nat_lt n (bits w)) e
        (Number 0) both.1 both.0
    below_width_within w (InTemp t) is = kept_below_within w t is

    -- a flag where the count is 1
    at_one_within : (c : Count) → IsReadable c → Within live most_room (most_price + 4) (at_one c e)
    at_one_within (Fixed n) is =
        let both = or_zero_within (most_price + 4) (omega arith) (omega arith) in chosen_within live (n == 1) e (Number 0) both.1 both.0
    at_one_within (InTemp t) is = record {
      sound = (h.sound, (is, tt, ordinary (λ k. tt)), ordinary (λ k. tt));
      in_room = omega (arith, wide, h.in_room, own_one e);
      in_price = omega (arith, h.in_price);
    }

    -- a flag that stays where the count is 0
    pub unless_zero_within : (c : Count) (f : ℕ) → f < 4 → IsReadable c → Within live most_room (most_price + 3) (unless_zero c f e)
    unless_zero_within (Fixed n) f flag is = within_more (omega arith) (omega arith) h
    unless_zero_within (InTemp t) f flag is =
        record { sound = (is, h.sound, flag); in_room = omega (arith, wide, h.in_room, own_one e); in_price = omega (arith, h.in_price) }

  -- ---- shifts

  module _ (w : Width) (c : Count) (is : IsReadable c) (a : ℕ) (in_a : Among live a) where
    -- a value, shifted
    pub shift_within : (o : Shift) → Within live 3 6 (shift_formula o w c (Kept a))
    shift_within Shl =
        let h = amount_within c is in
        let moved : Within live 3 4 (Operation ops.Shl (Kept a) (amount c)) =
        record {
          sound = (in_a, h.sound, ordinary (λ k. tt));
          in_room = omega (arith, h.in_room, own_one (amount c));
          in_price = omega (arith, h.in_price);
        } in
        clean_within live w _ (omega arith) moved
    shift_within Shr =
        let h = amount_within c is in
        record {
          sound = (in_a, h.sound, ordinary (λ k. tt));
          in_room = omega (arith, h.in_room, own_one (amount c));
          in_price = omega (arith, h.in_price);
        }
    shift_within Sar =
        let h = amount_within c is in
        let sign = with_sign_within live {most_room = 3} {most_price = 0} w (Kept a) (omega arith)
        (within_more (omega arith) (omega arith) (kept_within live a in_a)) in
        let moved : Within live 3 4 (Operation ops.Sar (with_sign w (Kept a)) (amount c)) =
        record {
          sound = (sign.sound, h.sound, ordinary (λ k. tt));
          in_room = omega (arith, h.in_room, sign.in_room, own_one (amount c), own_one (with_sign w (Kept a)));
          in_price = omega (arith, h.in_price, sign.in_price);
        } in
        clean_within live w _ (omega arith) moved

    -- CF
    pub carry_within : (o : Shift) → Within live 3 9 (shift_carry o w c (Kept a))
    carry_within Shl =
        let h = rest_within w c is in
        let moved : Within live 3 3 (Operation ops.Shr (Kept a) (rest_of_width w c)) =
        record {
          sound = (in_a, h.sound, ordinary (λ k. tt));
          in_room = omega (arith, h.in_room, own_one (rest_of_width w c));
          in_price = omega (arith, h.in_price);
        } in
        below_width_within _ (omega arith) (lowest_within _ (omega arith) moved) w c is
    carry_within Shr =
        let h = one_less_within c is in
        let moved : Within live 3 3 (Operation ops.Shr (Kept a) (one_less c)) =
        record {
          sound = (in_a, h.sound, ordinary (λ k. tt));
          in_room = omega (arith, h.in_room, own_one (one_less c));
          in_price = omega (arith, h.in_price);
        } in
        below_width_within _ (omega arith) (lowest_within _ (omega arith) moved) w c is
    carry_within Sar =
        let h = one_less_within c is in
        let sign = with_sign_within live {most_room = 3} {most_price = 0} w (Kept a) (omega arith)
        (within_more (omega arith) (omega arith) (kept_within live a in_a)) in
        let moved : Within live 3 7 (Operation ops.Sar (with_sign w (Kept a)) (one_less c)) =
        record {
          sound = (sign.sound, h.sound, ordinary (λ k. tt));
          in_room = omega (arith, h.in_room, sign.in_room, own_one (one_less c), own_one (with_sign w (Kept a)));
          in_price = omega (arith, h.in_price, sign.in_price);
        } in
        lowest_within _ (omega arith) moved

    -- OF
    pub overflow_within : (o : Shift) (r : ℕ) → Among live r → Within live 3 7 (shift_overflow o w c (Kept a) (Kept r))
    overflow_within Shl r in_r =
        let both : Within live 3 1 (Operation ops.Xor (Kept a) (Kept r)) =
        record { sound = (in_a, in_r, ordinary (λ k. tt)); in_room = omega arith; in_price = omega arith } in
        at_one_within _ (omega arith) (top_within live w _ (omega arith) both) c is
    overflow_within Shr r in_r =
        let old : Within live 3 1 (Kept a) = within_more (omega arith) (omega arith) (kept_within live a in_a) in
        at_one_within _ (omega arith) (top_within live w (Kept a) (omega arith) old) c is
    overflow_within Sar r in_r = within_more (omega arith) (omega arith) (small_within live 0 (omega arith))

  -- ---- rotates

  -- the places that are turned, and the bits that are left
  kept_turn_within : (w : Width) (t : Temp) → Among live t.0 → Within live 2 2 (kept_turn w t)
  kept_turn_within width.Byte t is = record { sound = (is, tt, ordinary (λ k. tt)); in_room = omega arith; in_price = omega arith }
  kept_turn_within width.Word t is = record { sound = (is, tt, ordinary (λ k. tt)); in_room = omega arith; in_price = omega arith }
  kept_turn_within width.Long t is = within_more (omega arith) (omega arith) (kept_within live t.0 is)
  kept_turn_within width.Quad t is = within_more (omega arith) (omega arith) (kept_within live t.0 is)

  -- a number of places is small
  places_small : (w : Width) (n : ℕ) → n % bits w < 2 ^ 16
  places_small width.Byte n = omega arith
  places_small width.Word n = omega arith
  places_small width.Long n = omega arith
  places_small width.Quad n = omega arith

  turn_within : (w : Width) (c : Count) → IsReadable c → Within live 2 2 (turn w c)
  turn_within w (Fixed n) is = within_more (omega arith) (omega arith) (small_within live (n % bits w) (places_small w n))
  turn_within w (InTemp t) is = kept_turn_within w t is

  rest_of_turn_within : (w : Width) (c : Count) → IsReadable c → Within live 3 4 (rest_of_turn w c)
  rest_of_turn_within w (Fixed n) is =
      within_more (omega arith) (omega arith) (small_within live (bits w - n % bits w) (omega (arith, bits_most w)))
  rest_of_turn_within w (InTemp t) is =
      let h = kept_turn_within w t is in
      record {
        sound = (tt, h.sound, ordinary (λ k. tt));
        in_room = omega (arith, h.in_room, own_one (kept_turn w t));
        in_price = omega (arith, h.in_price, number_small (bits w) (bits_small w));
      }

  module _ (c : Count) (is : IsReadable c) (a : ℕ) (in_a : Among live a) where
    -- a value of 64 bits, turned
    whole_within : (o : Rotate) → Within live 3 11 (whole_turned o c (Kept a))
    whole_within Rol =
        let h = rest_of_turn_within width.Quad c is in
        record {
          sound = (in_a, h.sound, ordinary (λ k. tt));
          in_room = omega (arith, h.in_room, own_one (rest_of_turn width.Quad c));
          in_price = omega (arith, h.in_price);
        }
    whole_within Ror =
        let h = turn_within width.Quad c is in
        record {
          sound = (in_a, h.sound, ordinary (λ k. tt));
          in_room = omega (arith, h.in_room, own_one (turn width.Quad c));
          in_price = omega (arith, h.in_price);
        }

    -- the two parts of a value of a width
    parts_within : (o : Rotate) (w : Width) → Within live 3 9 (parts_turned o w c (Kept a))
    parts_within o w = by o
      where
        h : Within live 2 2 (turn w c)
        h = turn_within w c is

        k : Within live 3 4 (rest_of_turn w c)
        k = rest_of_turn_within w c is

        by : (o : Rotate) → Within live 3 9 (parts_turned o w c (Kept a))
        by Rol = record {
          sound = ((in_a, k.sound, ordinary (λ k. tt)), (in_a, h.sound, ordinary (λ k. tt)), ordinary (λ k. tt));
          in_room = omega (arith, h.in_room, k.in_room, own_one (turn w c), own_one (rest_of_turn w c));
          in_price = omega (arith, h.in_price, k.in_price);
        }
        by Ror = record {
          sound = ((in_a, k.sound, ordinary (λ k. tt)), (in_a, h.sound, ordinary (λ k. tt)), ordinary (λ k. tt));
          in_room = omega (arith, h.in_room, k.in_room, own_one (turn w c), own_one (rest_of_turn w c));
          in_price = omega (arith, h.in_price, k.in_price);
        }

    -- a value, turned
    pub turned_within : (o : Rotate) (w : Width) → Within live 3 11 (turn_formula o w c (Kept a))
    turned_within o width.Quad = whole_within o
    turned_within o width.Byte =
        clean_within live width.Byte (parts_turned o width.Byte c (Kept a)) (omega arith) (parts_within o width.Byte)
    turned_within o width.Word =
        clean_within live width.Word (parts_turned o width.Word c (Kept a)) (omega arith) (parts_within o width.Word)
    turned_within o width.Long =
        clean_within live width.Long (parts_turned o width.Long c (Kept a)) (omega arith) (parts_within o width.Long)

  module _ (w : Width) (r : ℕ) (in_r : Among live r) where
    -- what was turned
    result_within : Within live 3 0 (Kept r)
    result_within = within_more (omega arith) (omega arith) (kept_within live r in_r)

    -- CF
    pub turn_carry_within : (o : Rotate) → Within live 3 2 (turn_carry o w (Kept r))
    turn_carry_within Rol = lowest_within (Kept r) (omega arith) result_within
    turn_carry_within Ror = top_within live w (Kept r) (omega arith) result_within

    -- OF of a turn by 1
    first_overflow_within : (o : Rotate) → Within live 3 7 (turn_overflow o w (Kept r))
    first_overflow_within Rol =
        let low = lowest_within (Kept r) (omega arith) result_within in
        let high = top_within live w (Kept r) (omega arith) result_within in
        record {
          sound = (low.sound, high.sound, ordinary (λ k. tt));
          in_room = omega arith;
          in_price = omega (arith, low.in_price, high.in_price);
        }
    first_overflow_within Ror =
        let below : Within live 3 2 (Operation ops.Shr (Kept r) (Number (bits w - 2))) =
        record {
          sound = (in_r, tt, ordinary (λ k. tt));
          in_room = omega arith;
          in_price = omega (arith, number_small (bits w - 2) (omega (arith, bits_most w)));
        } in
        let low = lowest_within _ (omega arith) below in
        let high = top_within live w (Kept r) (omega arith) result_within in
        record {
          sound = (low.sound, high.sound, ordinary (λ k. tt));
          in_room = omega arith;
          in_price = omega (arith, low.in_price, high.in_price);
        }

    -- OF
    pub turn_overflow_within : (o : Rotate) (c : Count) → IsReadable c → Within live 3 11 (at_one c (turn_overflow o w (Kept r)))
    turn_overflow_within o c is = at_one_within (turn_overflow o w (Kept r)) (omega arith) (first_overflow_within o) c is
