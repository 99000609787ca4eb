-- The steps of shifts and rotates do what their rows do.
use Rattle.std.proofs.Common.{◌≡◌, ℕ, ◌-◌, ◌/◌, ◌%◌, ◌^◌, ◌<◌, false, refl, ap, sym, subst, ◌∙◌, arith}
use Rattle.std.specs.Prelude.{bit_and, ◌==◌, ◌&&◌, ◌||◌, nat_lt, if◌then◌else◌}
use Rattle.std.proofs.lemmas.Nat.{and_mask}
use Rattle.std.proofs.Math.Nat.{div-one}
use Rattle.word_arith.specs.Bits.{bit, top_bit}
use Rattle.word_arith.proofs.CallerLemmas.{top_bit_is}
use Rattle.alu_width.specs.declared.flags.Flags.{Flags}
use Rattle.alu_width.specs.declared.flags.Outcome.{Outcome}
use Rattle.alu_width.specs.declared.operations.Rotate.{Rotate}
use Rattle.alu_width.specs.declared.operations.Rotate.TheVariants.{Rol, Ror}
use Rattle.alu_width.specs.declared.operations.Shift.{Shift}
use Rattle.alu_width.specs.declared.operations.Shift.TheVariants.{Shl, Shr, Sar}
use Rattle.alu_width.specs.Effects.{is_sar}
use Rattle.alu_width.specs.Masked.{masked}
use Rattle.alu_width.specs.Shifts.{shifted, last_out, shift_outcome}
use Rattle.alu_width.specs.Shifts.{shift_overflow as overflow_by_one}
use Rattle.alu_width.specs.Turns.{turned, rotate_outcome}
use Rattle.alu_width.specs.Turns.{turn_carry as carry_of_turn, turn_overflow as overflow_of_turn}
use Rattle.alu_width.proofs.CallerLemmas.{shift_outcome-zero, rotate_outcome-zero}
use Rattle.behavior.specs.Tree.{◌then◌}
use Rattle.behavior.specs.Acts.{Permission}
use Rattle.x64_syntax.specs.Formed.{IsStored, IsCount}
use Rattle.x64_syntax.specs.Operands.{bits}
use Rattle.x64_syntax.specs.declared.instr.ShiftOp.{ShiftOp}
use Rattle.x64_syntax.specs.declared.instr.ShiftOp.TheVariants as shift
use Rattle.x64_syntax.specs.declared.instr.Instr.TheVariants as instr
use Rattle.x64_syntax.specs.declared.operand.Operand.{Operand}
use Rattle.x64_syntax.specs.declared.operand.Operand.TheVariants as operand
use Rattle.x64_syntax.specs.declared.operand.Reg.{Reg}
use Rattle.x64_syntax.specs.declared.operand.Width.{Width}
use Rattle.x64_syntax.specs.declared.operand.Width.TheVariants as width
use Rattle.x64_table.specs.State.{Thread, lowest, register, with_flags}
use Rattle.x64_table.specs.Outcomes.{turn_outcome}
use Rattle.x64_table.specs.Rows.{becomes, shift_row, acts}
use Rattle.x64_table.specs.Rows as rows
use Rattle.limm_ir.specs.Steps.{IrState}
use Rattle.limm_ir.specs.declared.block.IrEnd.TheVariants as ends
use Rattle.limm_ir.specs.declared.step.IrOp.TheVariants as ops
use Rattle.lift_alu.specs.declared.shifts.Count.{Count}
use Rattle.lift_alu.specs.declared.shifts.Count.TheVariants.{Fixed, InTemp}
use Rattle.lift_alu.specs.Formulas.{Kept, Number, Operation, value, temp, Lifting}
use Rattle.lift_alu.specs.Flags.{CF, ZF, SF, OF, top}
use Rattle.lift_alu.specs.Shifts.{masked_formula, at_one, unless_zero, shift_formula, shift_carry, shift_overflow, shift_flags}
use Rattle.lift_alu.specs.Turns.{turn_formula, turn_carry, turn_overflow, turn_flags}
use Rattle.lift_alu.specs.Lifted.{kept_in, shifts_by, rewrites, shifts_number, shifts, lifts}
use Rattle.lift_alu.specs.Lifted as lifted
use Rattle.lift_alu.specs.Meant.{SameThread}
use Rattle.lift_alu.proofs.Computed.{IsKeptBelow}
use Rattle.lift_alu.proofs.Words.{is_width, positive}
use Rattle.lift_alu.proofs.FlagValues.{value_top}
use Rattle.lift_alu.proofs.ShiftValues.{counts_below, masked_below, equal_by_test, some_by_test, unless_zero_is, shift_is, carry_is}
use Rattle.lift_alu.proofs.ShiftValues.{overflow_is, shifted_below, shift_leaves, shift_flags_are, shift_value_is}
use Rattle.lift_alu.proofs.TurnValues.{turned_is, turned_below, turn_carry_is, turn_overflow_at, turn_leaves, turn_flags_are, turn_value_is}
use Rattle.lift_alu.proofs.Rules.{Holds, holds_later, later_same, Does, Later, keeps_does}
use Rattle.lift_alu.proofs.ShiftRules.{one_of_two, Counted, counted_later, kept_unless_zero, kept_shift, kept_carry, kept_overflow}
use Rattle.lift_alu.proofs.ShiftRules.{kept_turned, kept_turn_carry, kept_turn_overflow, sets_two_does, sets_four_does}
use Rattle.lift_alu.proofs.OperandRules.{changes_does}
use Rattle.lift_alu.proofs.Instructions.{Follows, Means}

-- a value of a width that is kept fits it
kept_fits : (w : Width) (m : ℕ) (j : IrState) (k v : ℕ) → Holds m j k v → v < 2 ^ bits w → j.temps k < 2 ^ bits w
kept_fits w m j k v holds fit = subst (λ x. x < 2 ^ bits w) (sym holds.is) fit

-- ---- flags

module _ (w : Width) (c : Count) (n : ℕ) (lt : n < counts_below w) (v : ℕ) (fit : v < 2 ^ bits w) (m : ℕ) (j : IrState)
    (counted : Counted m j c n) where
  module _ (o : Shift) (ka kr : ℕ) (old : Holds m j ka v) (new : Holds m j kr (shifted o (bits w) v n)) where
    -- OF of a shift
    overflow_here : value j (shift_overflow o w c (Kept ka) (Kept kr)) ≡ bit ((n == 1) && overflow_by_one o (bits w) v)
    overflow_here =
        subst (λ x. value j (shift_overflow o w c (Kept ka) (Kept kr)) ≡ bit ((n == 1) && overflow_by_one o (bits w) x)) old.is
        (overflow_is j w c n (Kept ka) counted.counts lt (kept_fits w m j ka v old fit) o (Kept kr)
        (new.is ∙ ap (λ x. shifted o (bits w) x n) (sym old.is)))

    -- CF
    carry_here : 0 < n → value j (shift_carry o w c (Kept ka)) ≡ bit ((is_sar o || nat_lt n (bits w)) && last_out o (bits w) v n)
    carry_here some =
        subst (λ x. value j (shift_carry o w c (Kept ka)) ≡ bit ((is_sar o || nat_lt n (bits w)) && last_out o (bits w) x n)) old.is
        (carry_is j w c n (Kept ka) counted.counts lt (kept_fits w m j ka v old fit) some o)

    -- SF
    sign_here : value j (top w (Kept kr)) ≡ bit (top_bit (bits w) (shifted o (bits w) v n))
    sign_here =
        value_top w j (Kept kr) ∙ ap (λ x. x / 2 ^ (bits w - 1)) new.is
        ∙ top_bit_is (bits w) (shifted o (bits w) v n) (positive (bits w) (is_width w)) (shifted_below o (bits w) v n fit)

  module _ (o : Rotate) (kr : ℕ) (new : Holds m j kr (turned o (bits w) v (n % bits w))) where
    turned_fits : j.temps kr < 2 ^ bits w
    turned_fits = kept_fits w m j kr (turned o (bits w) v (n % bits w)) new (turned_below o w v n fit)

    -- OF of a rotate
    turn_overflow_here : value j (at_one c (turn_overflow o w (Kept kr)))
        ≡ bit ((n == 1) && overflow_of_turn o (bits w) (turned o (bits w) v (n % bits w)))
    turn_overflow_here =
        turn_overflow_at j w (Kept kr) turned_fits o c n counted.counts ∙ ap (λ x. bit ((n == 1) && overflow_of_turn o (bits w) x)) new.is

    -- CF
    turn_carry_here : value j (turn_carry o w (Kept kr)) ≡ bit (carry_of_turn o (bits w) (turned o (bits w) v (n % bits w)))
    turn_carry_here = turn_carry_is j w (Kept kr) turned_fits o ∙ ap (λ x. bit (carry_of_turn o (bits w) x)) new.is

module _ (may : Permission) (table place after : ℕ) (fits : after < 2 ^ 64) where
  -- a shift or a rotate by a count that is kept or fixed
  module _ (w : Width) (to : Operand) (is : IsStored w to) (t : Thread) (at : t.at ≡ after) (count : ℕ) (c : Count) (next : ℕ) (s : IrState)
      (same : SameThread t s)
      (counted : Counted next s c (masked (bits w) count)) where
    -- the masked count
    abbrev n : ℕ
    n = masked (bits w) count

    -- an operand becomes an outcome of its value by that count
    abbrev Becomes : (ℕ → Outcome) → Lifting → Type 0
    Becomes out steps = Does may (ends.Goto after) (becomes may place false w to t out then Follows may table) (steps next) s

    shift_does : (o : Shift)
        → Becomes (λ a. shift_outcome o (bits w) a count t.flags)
        (lifted.changes place after w to (shift_formula o w c) (shift_flags o w c))
    unfolding shift_flags
    shift_does o =
        changes_does may place after fits table w to t next s (shift_formula o w c) (shift_flags o w c)
        (λ a. (shift_outcome o (bits w) a count t.flags).value)
        (λ a. with_flags (shift_outcome o (bits w) a count t.flags).flags t) same is at (λ a. at)
        (λ v fit k m j same' later holds.
        let here = counted_later next s c n m j later counted in
        let value_is = shift_value_is o (bits w) v count t.flags in (
          kept_shift m w c k here.below holds.below o,
          subst (λ x. value j (shift_formula o w c (Kept k)) ≡ shifted o (bits w) x n) holds.is
              (shift_is j w c n (Kept k) here.counts (masked_below w count) (kept_fits w m j k v holds fit) o) ∙ sym value_is,
          subst (λ x. x < 2 ^ bits w) (sym value_is) (shifted_below o (bits w) v n fit),
        ))
        (λ v fit ka kr m j q rest same' later old changed go.
        let lt = masked_below w count in
        let here = counted_later next s c n m j later counted in
        let new : Holds m j kr (shifted o (bits w) v n) =
        record { below = changed.below; is = changed.is ∙ shift_value_is o (bits w) v count t.flags } in
        let leaves : Flags = shift_leaves o (bits w) v n t.flags in
        sets_four_does may (ends.Goto after) q t m j (unless_zero c OF (shift_overflow o w c (Kept ka) (Kept kr)))
        (unless_zero c ZF (Operation ops.Eq (Kept kr) (Number 0)))
        (unless_zero c SF (top w (Kept kr))) (unless_zero c CF (shift_carry o w c (Kept ka))) leaves rest same'
        (record {
          kept = kept_unless_zero m c OF _ here.below (kept_overflow m w c ka here.below old.below o kr new.below);
          is = λ u k past was. let there = counted_later m j c n u k past here in
              unless_zero_is k c n OF (shift_overflow o w c (Kept ka) (Kept kr)) t.flags.of
              ((n == 1) && overflow_by_one o (bits w) v) there.counts was
              (λ some. overflow_here w c n lt v fit u k there o ka kr (holds_later past old) (holds_later past new));
        })
        (record {
          kept = kept_unless_zero m c ZF _ here.below (new.below, tt);
          is =
              λ u k past was. unless_zero_is k c n ZF (Operation ops.Eq (Kept kr) (Number 0)) t.flags.zf (shifted o (bits w) v n == 0)
              (counted_later m j c n u k past here).counts was
              (λ some. ap (λ x. bit (x == 0)) (holds_later past new).is);
        })
        (record {
          kept = kept_unless_zero m c SF _ here.below (new.below, tt);
          is = λ u k past was. let there = counted_later m j c n u k past here in
              unless_zero_is k c n SF (top w (Kept kr)) t.flags.sf (top_bit (bits w) (shifted o (bits w) v n)) there.counts was
              (λ some. sign_here w c n lt v fit u k there o ka kr (holds_later past old) (holds_later past new));
        })
        (record {
          kept = kept_unless_zero m c CF _ here.below (kept_carry m w c ka here.below old.below o);
          is = λ u k past was. let there = counted_later m j c n u k past here in
              unless_zero_is k c n CF (shift_carry o w c (Kept ka)) t.flags.cf
              ((is_sar o || nat_lt n (bits w)) && last_out o (bits w) v n) there.counts was
              (λ some. carry_here w c n lt v fit u k there o ka kr (holds_later past old) (holds_later past new) some);
        })
        (subst (λ f. Later may (ends.Goto after) q (with_flags f t) m j rest) (shift_flags_are o (bits w) v count t.flags (is_width w)) go))

    turn_does : (o : Rotate)
        → Becomes (λ a. rotate_outcome o (bits w) a count t.flags) (lifted.changes place after w to (turn_formula o w c) (turn_flags o w c))
    unfolding turn_flags
    turn_does o =
        changes_does may place after fits table w to t next s (turn_formula o w c) (turn_flags o w c)
        (λ a. (rotate_outcome o (bits w) a count t.flags).value)
        (λ a. with_flags (rotate_outcome o (bits w) a count t.flags).flags t) same is at (λ a. at)
        (λ v fit k m j same' later holds.
        let here = counted_later next s c n m j later counted in
        let value_is = turn_value_is o (bits w) v count t.flags in (
          kept_turned m w c k here.below holds.below o w,
          subst (λ x. value j (turn_formula o w c (Kept k)) ≡ turned o (bits w) x (n % bits w)) holds.is
              (turned_is j w c n here.counts (masked_below w count) o (Kept k) (kept_fits w m j k v holds fit)) ∙ sym value_is,
          subst (λ x. x < 2 ^ bits w) (sym value_is) (turned_below o w v n fit),
        ))
        (λ v fit ka kr m j q rest same' later old changed go.
        let lt = masked_below w count in
        let here = counted_later next s c n m j later counted in
        let r : ℕ = turned o (bits w) v (n % bits w) in
        let new : Holds m j kr r = record { below = changed.below; is = changed.is ∙ turn_value_is o (bits w) v count t.flags } in
        let leaves : Flags = turn_leaves o (bits w) n r t.flags in
        sets_two_does may (ends.Goto after) q t m j (unless_zero c OF (at_one c (turn_overflow o w (Kept kr))))
        (unless_zero c CF (turn_carry o w (Kept kr))) leaves rest same'
        (record {
          kept = kept_unless_zero m c OF _ here.below (kept_turn_overflow m w c kr here.below new.below o);
          is = λ u k past was. let there = counted_later m j c n u k past here in
              unless_zero_is k c n OF (at_one c (turn_overflow o w (Kept kr))) t.flags.of
              ((n == 1) && overflow_of_turn o (bits w) r) there.counts was
              (λ some. turn_overflow_here w c n lt v fit u k there o kr (holds_later past new));
        })
        (record {
          kept = kept_unless_zero m c CF _ here.below (kept_turn_carry m w c kr here.below new.below o);
          is = λ u k past was. let there = counted_later m j c n u k past here in
              unless_zero_is k c n CF (turn_carry o w (Kept kr)) t.flags.cf (carry_of_turn o (bits w) r) there.counts was
              (λ some. turn_carry_here w c n lt v fit u k there o kr (holds_later past new));
        })
        (subst (λ f. Later may (ends.Goto after) q (with_flags f t) m j rest) (turn_flags_are o (bits w) v count t.flags) go))

    -- each of the five
    shifts_by_does : (o : ShiftOp) → Becomes (λ a. turn_outcome o (bits w) a count t.flags) (shifts_by place after o w to c)
    unfolding turn_outcome
    shifts_by_does shift.Rol = turn_does Rol
    shifts_by_does shift.Ror = turn_does Ror
    shifts_by_does shift.Shl = shift_does Shl
    shifts_by_does shift.Shr = shift_does Shr
    shifts_by_does shift.Sar = shift_does Sar

-- by a masked count of 0 an operand and the flags are left as they are
left_alone : (o : ShiftOp) (w : Width) (v count : ℕ) (f : Flags) → v < 2 ^ bits w → masked (bits w) count ≡ 0
    → turn_outcome o (bits w) v count f ≡ record { value = v; flags = f }
unfolding turn_outcome
left_alone shift.Rol w v count f fit none = rotate_outcome-zero Rol (bits w) v count f (positive (bits w) (is_width w)) fit none
left_alone shift.Ror w v count f fit none = rotate_outcome-zero Ror (bits w) v count f (positive (bits w) (is_width w)) fit none
left_alone shift.Shl w v count f fit none = shift_outcome-zero Shl (bits w) v count f fit none
left_alone shift.Shr w v count f fit none = shift_outcome-zero Shr (bits w) v count f fit none
left_alone shift.Sar w v count f fit none = shift_outcome-zero Sar (bits w) v count f fit none

-- the masked count in CL
low_of_byte : (x low : ℕ) → low ≡ 0 → x / 2 ^ low % 256 ≡ x % 256
low_of_byte x low none = ap (λ k. x / 2 ^ k % 256) none ∙ ap (λ k. k % 256) (div-one x)

masked_is : (w : Width) (r : Reg) (t : Thread) (s : IrState) → SameThread t s → r.number < 16 → r.high ≡ false
    → value s (masked_formula w r) ≡ masked (bits w) (register width.Byte r t)
unfolding register
masked_is w r t s same lt low = by w
  where
    byte : t.regs r.number / 2 ^ lowest r.high % 256 ≡ t.regs r.number % 256
    byte = low_of_byte (t.regs r.number) (lowest r.high) (ap lowest low)

    narrow : bit_and (s.regs r.number) 31 ≡ t.regs r.number / 2 ^ lowest r.high % 256 % 32
    narrow = and_mask (s.regs r.number) 5 ∙ omega (arith, same.regs r.number lt, byte)

    by : (w : Width) → value s (masked_formula w r) ≡ masked (bits w) (t.regs r.number / 2 ^ lowest r.high % 256)
    by width.Byte = narrow
    by width.Word = narrow
    by width.Long = narrow
    by width.Quad = and_mask (s.regs r.number) 6 ∙ omega (arith, same.regs r.number lt, byte)

module _ (may : Permission) (table place after temps : ℕ) (fits : after < 2 ^ 64) where
  module _ (o : ShiftOp) (w : Width) (to : Operand) (count : ℕ) (is : IsStored w to) (t : Thread) (s : IrState) (at : t.at ≡ after)
      (same : SameThread t s) where
    -- what the operand's value becomes
    abbrev out : ℕ → Outcome
    out a = turn_outcome o (bits w) a count t.flags

    -- by 0 it is written as it was
    rewrites_does : masked (bits w) count ≡ 0
        → Does may (ends.Goto after) (becomes may place false w to t out then Follows may table) (rewrites place after w to temps) s
    unfolding rewrites
    rewrites_does none =
        changes_does may place after fits table w to t temps s (λ a. a) (λ a r rest. rest) (λ a. (out a).value)
        (λ a. with_flags (out a).flags t) same is at (λ a. at)
        (λ v fit k m j same' later holds.
        let same_value : (out v).value ≡ v = ap (λ (u : Outcome). u.value) (left_alone o w v count t.flags fit none) in
        (holds.below, holds.is ∙ sym same_value, subst (λ x. x < 2 ^ bits w) (sym same_value) fit))
        (λ v fit ka kr m j q rest same' later old changed go.
        let same_flags : (out v).flags ≡ t.flags = ap (λ (u : Outcome). u.flags) (left_alone o w v count t.flags fit none) in
        go m j (subst (λ f. SameThread (with_flags f t) j) (sym same_flags) same') (later_same m j))

    -- by a number
    number_does : Does may (ends.Goto after) (becomes may place false w to t out then Follows may table)
        (shifts_number place after o w to (masked (bits w) count) temps) s
    number_does =
        one_of_two (λ l. Does may (ends.Goto after) (becomes may place false w to t out then Follows may table) (l temps) s)
        (masked (bits w) count == 0) _ _
        (λ none. rewrites_does (equal_by_test (masked (bits w) count) 0 none))
        (λ some. shifts_by_does may table place after fits w to is t at count (Fixed (masked (bits w) count)) temps s same
        (record { below = tt; counts = (refl, some_by_test (masked (bits w) count) some) }) o)

  -- shifts and rotates
  pub shift_means : (o : ShiftOp) (w : Width) (to by : Operand) → IsStored w to × IsCount by
      → Means may table place after temps (instr.Shift o w to by)
  unfolding acts lifts shifts shift_row rows.fetches
  shift_means o w to (operand.Imm count) formed f t s at same = number_does o w to count formed.0 t s at same
  shift_means o w to (operand.Reg r) formed f t s at same =
      let count = register width.Byte r t in
      let row = becomes may place false w to t (λ a. turn_outcome o (bits w) a count t.flags) then Follows may table in
      let lt : r.number < 16 = omega (arith, formed.1.0) in
      keeps_does may (ends.Goto after) row t temps s (masked_formula w r) (masked (bits w) count)
      (λ c. shifts_by place after o w to (InTemp (temp (kept_in c)))) same
      (kept_count w) (masked_is w r t s same lt formed.1.1)
      (λ k next j same' later holds.
      let kept : Counted next j (InTemp (temp k)) (masked (bits w) count) = record { below = holds.below; counts = holds.is } in
      shifts_by_does may table place after fits w to formed.0 t at count (InTemp (temp k)) next j same' kept o)
    where
      kept_count : (w : Width) → IsKeptBelow temps (masked_formula w r)
      kept_count width.Byte = (tt, tt)
      kept_count width.Word = (tt, tt)
      kept_count width.Long = (tt, tt)
      kept_count width.Quad = (tt, tt)
  shift_means o w to (operand.Mem m) formed f t s at same = absurd formed.1
