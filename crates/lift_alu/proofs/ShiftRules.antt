-- What the steps of counts and of flags that may stay do beside a row.
use Rattle.std.proofs.Common.{◌≡◌, ℕ, ◌<◌, Bool, true, false, refl}
use Rattle.std.specs.Prelude.{nat_lt, ◌==◌, if◌then◌else◌}
use Rattle.word_arith.specs.Bits.{bit}
use Rattle.alu_width.specs.declared.flags.Flags.{Flags}
use Rattle.alu_width.specs.declared.operations.Rotate.{Rotate}
use Rattle.alu_width.specs.declared.operations.Rotate.TheVariants.{Rol, Ror}
use Rattle.alu_width.specs.declared.operations.Shift.{Shift}
use Rattle.alu_width.specs.declared.operations.Shift.TheVariants.{Shl, Shr, Sar}
use Rattle.behavior.specs.Tree.{Tree, Next}
use Rattle.behavior.specs.Acts.{Permission, put}
use Rattle.behavior.specs.Leaving.{Left}
use Rattle.x64_syntax.specs.Operands.{bits}
use Rattle.x64_syntax.specs.declared.operand.Width.{Width}
use Rattle.x64_syntax.specs.declared.operand.Width.TheVariants as width
use Rattle.x64_table.specs.State.{Thread, with_flags}
use Rattle.limm_ir.specs.Steps.{IrState}
use Rattle.limm_ir.specs.declared.block.IrEnd.{IrEnd}
use Rattle.limm_ir.specs.declared.step.IrOp.TheVariants as ops
use Rattle.limm_ir.specs.declared.step.Temp.{Temp}
use Rattle.lift_alu.specs.declared.shifts.Count.{Count}
use Rattle.lift_alu.specs.declared.shifts.Count.TheVariants.{Fixed, InTemp}
use Rattle.lift_alu.specs.Formulas.{Formula, Kept, Number, Operation, value, Lifting, sets_flag}
use Rattle.lift_alu.specs.Operands.{with_sign}
use Rattle.lift_alu.specs.Flags.{CF, ZF, SF, OF}
use Rattle.lift_alu.specs.Shifts.{amount, one_less, rest_of_width, kept_below_width, below_width, at_one, unless_zero, shift_formula}
use Rattle.lift_alu.specs.Shifts.{shift_carry, shift_overflow}
use Rattle.lift_alu.specs.Turns.{kept_turn, turn, rest_of_turn, whole_turned, parts_turned, turn_formula, turn_carry, turn_overflow}
use Rattle.lift_alu.specs.Meant.{SameThread}
use Rattle.lift_alu.proofs.Computed.{IsKeptBelow, kept_later}
use Rattle.lift_alu.proofs.KeptFormulas.{below_clean, below_with_sign}
use Rattle.lift_alu.proofs.Rules.{IsLater, Holds, holds_later, later_same, later_then, with_of, with_zf, with_sf, with_cf, same_of, same_zf}
use Rattle.lift_alu.proofs.Rules.{same_sf, same_cf, Does, Later, sets_flag_does}
use Rattle.lift_alu.proofs.ShiftValues.{Counts}

-- what holds of one of two liftings, whichever a test chooses
pub one_of_two : (P : Lifting → Type 0) (test : Bool) (one two : Lifting) → (test ≡ true → P one) → (test ≡ false → P two)
    → P (if test then one else two)
one_of_two P true one two first second = first refl
one_of_two P false one two first second = second refl

-- ---- counts that were set before

-- the temporary of a count is below a number
abbrev pub IsSetBelow : (next : ℕ) → Count → Type 0
IsSetBelow next (Fixed n) = Unit {0}
IsSetBelow next (InTemp t) = t.0 < next

-- a count is n
pub record Counted (next : ℕ) (i : IrState) (c : Count) (n : ℕ) : Type 0 where
  pub below : IsSetBelow next c
  pub counts : Counts i c n

-- and still is in a later state
pub counted_later : (next : ℕ) (i : IrState) (c : Count) (n m : ℕ) (j : IrState) → IsLater next i m j → Counted next i c n → Counted m j c n
counted_later next i (Fixed k) n m j later counted = record { below = tt; counts = counted.counts }
counted_later next i (InTemp t) n m j later counted =
    let holds : Holds m j t.0 n = holds_later later (record { below = counted.below; is = counted.counts }) in
    record { below = holds.below; counts = holds.is }

-- the formulas of counts, shifts and rotates keep only what was set before
module _ (next : ℕ) where
  kept_amount : (c : Count) → IsSetBelow next c → IsKeptBelow next (amount c)
  kept_amount (Fixed n) below = tt
  kept_amount (InTemp t) below = below

  kept_one_less : (c : Count) → IsSetBelow next c → IsKeptBelow next (one_less c)
  kept_one_less (Fixed n) below = tt
  kept_one_less (InTemp t) below = (below, tt)

  kept_rest : (w : Width) (c : Count) → IsSetBelow next c → IsKeptBelow next (rest_of_width w c)
  kept_rest w (Fixed n) below = tt
  kept_rest w (InTemp t) below = (tt, below)

  -- a formula or 0
  kept_or_zero : (test : Bool) (e : Formula) → IsKeptBelow next e → IsKeptBelow next (if test then e else Number 0)
  kept_or_zero true e kept = kept
  kept_or_zero false e kept = tt

  kept_kept_below : (w : Width) (t : Temp) (e : Formula) → t.0 < next → IsKeptBelow next e → IsKeptBelow next (kept_below_width w t e)
  kept_kept_below width.Byte t e below kept = (kept, (below, tt))
  kept_kept_below width.Word t e below kept = (kept, (below, tt))
  kept_kept_below width.Long t e below kept = kept
  kept_kept_below width.Quad t e below kept = kept

  kept_below_width_of : (w : Width) (c : Count) (e : Formula) → IsSetBelow next c → IsKeptBelow next e
      → IsKeptBelow next (below_width w c e)
  kept_below_width_of w (Fixed n) e below kept = kept_or_zero (nat_lt n (bits w)) e kept
  kept_below_width_of w (InTemp t) e below kept = kept_kept_below w t e below kept

  kept_at_one : (c : Count) (e : Formula) → IsSetBelow next c → IsKeptBelow next e → IsKeptBelow next (at_one c e)
  kept_at_one (Fixed n) e below kept = kept_or_zero (n == 1) e kept
  kept_at_one (InTemp t) e below kept = (kept, (below, tt))

  pub kept_unless_zero : (c : Count) (f : ℕ) (e : Formula) → IsSetBelow next c → IsKeptBelow next e → IsKeptBelow next (unless_zero c f e)
  kept_unless_zero (Fixed n) f e below kept = kept
  kept_unless_zero (InTemp t) f e below kept = (below, (kept, tt))

  module _ (w : Width) (c : Count) (k : ℕ) (below : IsSetBelow next c) (lt : k < next) where
    pub kept_shift : (o : Shift) → IsKeptBelow next (shift_formula o w c (Kept k))
    kept_shift Shl = below_clean next w (Operation ops.Shl (Kept k) (amount c)) (lt, kept_amount c below)
    kept_shift Shr = (lt, kept_amount c below)
    kept_shift Sar =
        below_clean next w (Operation ops.Sar (with_sign w (Kept k)) (amount c)) (below_with_sign next w (Kept k) lt, kept_amount c below)

    pub kept_carry : (o : Shift) → IsKeptBelow next (shift_carry o w c (Kept k))
    kept_carry Shl = kept_below_width_of w c _ below ((lt, kept_rest w c below), tt)
    kept_carry Shr = kept_below_width_of w c _ below ((lt, kept_one_less c below), tt)
    kept_carry Sar = ((below_with_sign next w (Kept k) lt, kept_one_less c below), tt)

    pub kept_overflow : (o : Shift) (r : ℕ) → r < next → IsKeptBelow next (shift_overflow o w c (Kept k) (Kept r))
    kept_overflow Shl r second = kept_at_one c _ below ((lt, second), tt)
    kept_overflow Shr r second = kept_at_one c _ below (lt, tt)
    kept_overflow Sar r second = tt

    kept_kept_turn : (w : Width) (t : Temp) → t.0 < next → IsKeptBelow next (kept_turn w t)
    kept_kept_turn width.Byte t first = (first, tt)
    kept_kept_turn width.Word t first = (first, tt)
    kept_kept_turn width.Long t first = first
    kept_kept_turn width.Quad t first = first

    kept_turn_of : (w : Width) (c : Count) → IsSetBelow next c → IsKeptBelow next (turn w c)
    kept_turn_of w (Fixed n) first = tt
    kept_turn_of w (InTemp t) first = kept_kept_turn w t first

    kept_rest_of : (w : Width) (c : Count) → IsSetBelow next c → IsKeptBelow next (rest_of_turn w c)
    kept_rest_of w (Fixed n) first = tt
    kept_rest_of w (InTemp t) first = (tt, kept_kept_turn w t first)

    kept_parts : (o : Rotate) (w : Width) → IsKeptBelow next (parts_turned o w c (Kept k))
    kept_parts Rol w = ((lt, kept_rest_of w c below), (lt, kept_turn_of w c below))
    kept_parts Ror w = ((lt, kept_rest_of w c below), (lt, kept_turn_of w c below))

    kept_whole : (o : Rotate) → IsKeptBelow next (whole_turned o c (Kept k))
    kept_whole Rol = (lt, kept_rest_of width.Quad c below)
    kept_whole Ror = (lt, kept_turn_of width.Quad c below)

    pub kept_turned : (o : Rotate) (w : Width) → IsKeptBelow next (turn_formula o w c (Kept k))
    kept_turned o width.Quad = kept_whole o
    kept_turned o width.Byte = below_clean next width.Byte (parts_turned o width.Byte c (Kept k)) (kept_parts o width.Byte)
    kept_turned o width.Word = below_clean next width.Word (parts_turned o width.Word c (Kept k)) (kept_parts o width.Word)
    kept_turned o width.Long = below_clean next width.Long (parts_turned o width.Long c (Kept k)) (kept_parts o width.Long)

    pub kept_turn_carry : (o : Rotate) → IsKeptBelow next (turn_carry o w (Kept k))
    kept_turn_carry Rol = (lt, tt)
    kept_turn_carry Ror = (lt, tt)

    kept_first_overflow : (o : Rotate) → IsKeptBelow next (turn_overflow o w (Kept k))
    kept_first_overflow Rol = ((lt, tt), (lt, tt))
    kept_first_overflow Ror = (((lt, tt), tt), (lt, tt))

    pub kept_turn_overflow : (o : Rotate) → IsKeptBelow next (at_one c (turn_overflow o w (Kept k)))
    kept_turn_overflow o = kept_at_one c (turn_overflow o w (Kept k)) below (kept_first_overflow o)

-- ---- flags that may stay

-- what the formula of a flag is in every later state, where the flag is the one before
pub record Settles (next : ℕ) (i : IrState) (f : ℕ) (e : Formula) (before after : Bool) : Type 0 where
  pub kept : IsKeptBelow next e
  pub is : (n : ℕ) (j : IrState) → IsLater next i n j → j.flags f ≡ bit before → value j e ≡ bit after

module _ (may : Permission) (end : IrEnd) where
  -- a flag is set, in a later state
  settles_does : (q : Tree (Next (Left Thread))) (s s' : Thread) (next : ℕ) (i : IrState) (f : ℕ) (e : Formula) (before after : Bool)
      (rest : Lifting) → Settles next i f e before after
      → ((j : IrState) → SameThread s j → SameThread s' (record j { flags = put f (bit after) j.flags }))
      → (n : ℕ) (j : IrState) → IsLater next i n j → SameThread s j → j.flags f ≡ bit before
      → ((m : ℕ) (k : IrState) → SameThread s' k → IsLater next i m k → Does may end q (rest m) k) → Does may end q (sets_flag f e rest n) j
  settles_does q s s' next i f e before after rest settles set n j later same was go =
      sets_flag_does may end q s s' n j f e (bit after) rest same (kept_later next n e later.le settles.kept) (settles.is n j later was) set
      (λ m k same' later'. go m k same' (later_then later later'))

  -- OF and CF are set
  pub sets_two_does : (q : Tree (Next (Left Thread))) (s : Thread) (next : ℕ) (i : IrState) (of cf : Formula) (f : Flags) (rest : Lifting)
      → SameThread s i
      → Settles next i OF of s.flags.of f.of → Settles next i CF cf s.flags.cf f.cf
      → Later may end q (with_cf f.cf (with_of f.of s)) next i rest
      → Does may end q (sets_flag OF of (sets_flag CF cf rest) next) i
  sets_two_does q s next i of cf f rest same overflow carry go =
      let one = with_of f.of s in
      settles_does q s one next i OF of s.flags.of f.of (sets_flag CF cf rest) overflow (λ j is. same_of s j f.of (bit f.of) refl is) next i
      (later_same next i) same same.of
      (λ n1 i1 same1 later1.
      settles_does q one (with_cf f.cf one) next i CF cf s.flags.cf f.cf rest carry
      (λ j is. same_cf one j f.cf (bit f.cf) refl is) n1 i1 later1 same1 same1.cf go)

  -- all four flags are set
  pub sets_four_does : (q : Tree (Next (Left Thread))) (s : Thread) (next : ℕ) (i : IrState) (of zf sf cf : Formula) (f : Flags)
      (rest : Lifting) → SameThread s i
      → Settles next i OF of s.flags.of f.of → Settles next i ZF zf s.flags.zf f.zf → Settles next i SF sf s.flags.sf f.sf
      → Settles next i CF cf s.flags.cf f.cf
      → Later may end q (with_flags f s) next i rest
      → Does may end q (sets_flag OF of (sets_flag ZF zf (sets_flag SF sf (sets_flag CF cf rest))) next) i
  sets_four_does q s next i of zf sf cf f rest same overflow zero_flag sign carry go =
      let one = with_of f.of s in
      let two = with_zf f.zf one in
      let three = with_sf f.sf two in
      settles_does q s one next i OF of s.flags.of f.of _ overflow (λ j is. same_of s j f.of (bit f.of) refl is) next i
      (later_same next i) same same.of
      (λ n1 i1 same1 later1.
      settles_does q one two next i ZF zf s.flags.zf f.zf _ zero_flag
      (λ j is. same_zf one j f.zf (bit f.zf) refl is) n1 i1 later1 same1 same1.zf
      (λ n2 i2 same2 later2.
      settles_does q two three next i SF sf s.flags.sf f.sf _ sign
      (λ j is. same_sf two j f.sf (bit f.sf) refl is) n2 i2 later2 same2 same2.sf
      (λ n3 i3 same3 later3.
      settles_does q three (with_cf f.cf three) next i CF cf s.flags.cf f.cf rest carry
      (λ j is. same_cf three j f.cf (bit f.cf) refl is) n3 i3 later3 same3 same3.cf go)))
