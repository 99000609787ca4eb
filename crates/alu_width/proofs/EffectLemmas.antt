-- The rows of shifts and rotates by CL are the unions of the rows by numbers.
use Rattle.std.proofs.Common.{◌≡◌, ◌≢◌, ℕ, ◌<◌, Bool, true, false, arith, refl, inl, inr, lit<}
use Rattle.std.specs.Prelude.{IsTrue, ◌==◌, nat_lt, ◌||◌, if◌then◌else◌}
use Rattle.std.proofs.lemmas.Bool.Decides.{nat_tests}
use Rattle.word_arith.specs.Width.{IsWidth}
use Rattle.alu_width.specs.declared.operations.Shift.{Shift}
use Rattle.alu_width.specs.declared.operations.Shift.TheVariants.{Shl, Shr, Sar}
use Rattle.alu_width.specs.Effects.{Effect, Effects, Kept, Defined, Undefined, effects, is_sar, leaves_undefined, shift_effects, turn_effects}
use Rattle.alu_width.specs.Masked.{masked}
use Rattle.alu_width.specs.ByCl.{IsUnion, IsUnionOfRows, ShiftsByCl, TurnsByCl}

-- a flag is left undefined by an effect that does not undefine only where it was so before
passed_on : (e : Effect) (was : Bool) → e ≢ Undefined → IsTrue (leaves_undefined e was) → IsTrue was
passed_on Kept was never h = h
passed_on Defined was never h = cc
passed_on Undefined was never h = absurd (never refl)

-- the union of effects of which the one at 0 keeps and none undefines
kept_union : (at : ℕ → Effect) → at 0 ≡ Kept → ((count : ℕ) → at count ≢ Undefined) → IsUnion Kept at
kept_union at zero_keeps never was =
    ((λ h. (0, lit< tt, rw zero_keeps h)), (λ some. passed_on (at some.0) was (never some.0) some.2))

-- the union of effects of which one undefines
undefined_union : (at : ℕ → Effect) (count : ℕ) → count < 256 → at count ≡ Undefined → IsUnion Undefined at
undefined_union at count h e was = ((λ _. (count, h, rw e)), (λ _. refl))

-- the row of a shift, from whether its count is 0, is 1, and leaves a carry
row : (none one carries : Bool) → Effects
row none one carries =
    if none then effects Kept Kept Kept Kept
    else (if one then effects Defined Defined Defined Defined
    else (if carries then effects Defined Defined Defined Undefined
    else effects Undefined Defined Defined Undefined))

-- no count undefines ZF
row_zf : (none one carries : Bool) → (row none one carries).zf ≢ Undefined
unfolding row
row_zf true one carries = λ e. cc
row_zf false true carries = λ e. cc
row_zf false false true = λ e. cc
row_zf false false false = λ e. cc

-- no count undefines SF
row_sf : (none one carries : Bool) → (row none one carries).sf ≢ Undefined
unfolding row
row_sf true one carries = λ e. cc
row_sf false true carries = λ e. cc
row_sf false false true = λ e. cc
row_sf false false false = λ e. cc

-- no count that leaves a carry undefines CF
row_cf : (none one carries : Bool) → carries ≡ true → (row none one carries).cf ≢ Undefined
unfolding row
row_cf true one carries t = λ e. cc
row_cf false true carries t = λ e. cc
row_cf false false true t = λ e. cc
row_cf false false false t = λ e. cc

-- a count over 1 undefines OF
row_of : (carries : Bool) → (row false false carries).of ≡ Undefined
unfolding row
row_of true = refl
row_of false = refl

-- the carry of a shift whose counts all leave one
carry_union : (op : Shift) (W : ℕ) → masked W 0 ≡ 0 → ((count : ℕ) → (is_sar op || nat_lt (masked W count) W) ≡ true) →
    IsUnion Kept (λ count. (shift_effects op W (masked W count)).cf)
unfolding row
carry_union op W start all =
    kept_union (λ count. (shift_effects op W (masked W count)).cf) (rw start)
    (λ count. row_cf (masked W count == 0) (masked W count == 1) (is_sar op || nat_lt (masked W count) W) (all count))

-- the masked count of 0
start_of : (W : ℕ) → IsWidth W → masked W 0 ≡ 0
start_of W w = grind arith

-- the masked count of 2
two_of : (W : ℕ) → IsWidth W → masked W 2 ≡ 2
two_of W w = grind arith

-- the row of a shift by CL, from the union of its carries
by_carry : (op : Shift) (W : ℕ) (carry : Effect) → masked W 0 ≡ 0 → masked W 2 ≡ 2 →
    IsUnion carry (λ count. (shift_effects op W (masked W count)).cf) →
    IsUnionOfRows (effects carry Kept Kept Undefined) (λ count. shift_effects op W (masked W count))
unfolding row
by_carry op W carry start two union = record {
  cf = union;
  zf = kept_union (λ count. (shift_effects op W (masked W count)).zf) (rw start)
      (λ count. row_zf (masked W count == 0) (masked W count == 1) (is_sar op || nat_lt (masked W count) W));
  sf = kept_union (λ count. (shift_effects op W (masked W count)).sf) (rw start)
      (λ count. row_sf (masked W count == 0) (masked W count == 1) (is_sar op || nat_lt (masked W count) W));
  of = undefined_union (λ count. (shift_effects op W (masked W count)).of) 2 (lit< tt) (rw two (row_of (is_sar op || nat_lt 2 W)));
}

-- every masked count is below 32 bits
below_32 : (count : ℕ) → nat_lt (masked 32 count) 32 ≡ true
below_32 count = grind (arith, nat_tests)

-- every masked count is below 64 bits
below_64 : (count : ℕ) → nat_lt (masked 64 count) 64 ≡ true
below_64 count = grind (arith, nat_tests)

-- the row of a shift by CL is the union of the rows by numbers
pub shifts_by_cl : ShiftsByCl
shifts_by_cl Shl W w = elim w [
  | inl e ↦ rw e (by_carry Shl 8 Undefined refl refl (undefined_union (λ count. (shift_effects Shl 8 (masked 8 count)).cf) 31 (lit< tt) refl))
  | inr v ↦ elim v [
    | inl e ↦ rw e (by_carry Shl 16 Undefined refl refl (undefined_union (λ count. (shift_effects Shl 16 (masked 16 count)).cf) 31 (lit< tt) refl))
    | inr u ↦ elim u [
      | inl e ↦ rw e (by_carry Shl 32 Kept refl refl (carry_union Shl 32 refl below_32))
      | inr e ↦ rw e (by_carry Shl 64 Kept refl refl (carry_union Shl 64 refl below_64))
    ]
  ]
]
shifts_by_cl Shr W w = elim w [
  | inl e ↦ rw e (by_carry Shr 8 Undefined refl refl (undefined_union (λ count. (shift_effects Shr 8 (masked 8 count)).cf) 31 (lit< tt) refl))
  | inr v ↦ elim v [
    | inl e ↦ rw e (by_carry Shr 16 Undefined refl refl (undefined_union (λ count. (shift_effects Shr 16 (masked 16 count)).cf) 31 (lit< tt) refl))
    | inr u ↦ elim u [
      | inl e ↦ rw e (by_carry Shr 32 Kept refl refl (carry_union Shr 32 refl below_32))
      | inr e ↦ rw e (by_carry Shr 64 Kept refl refl (carry_union Shr 64 refl below_64))
    ]
  ]
]
shifts_by_cl Sar W w =
    by_carry Sar W Kept (start_of W w) (two_of W w) (carry_union Sar W (start_of W w) (λ count. refl))

-- no count of a rotate undefines ZF
turn_zf : (none one : Bool) → (if none then effects Kept Kept Kept Kept else (if one then effects Defined Kept Kept Defined else effects Defined Kept Kept Undefined)).zf ≢ Undefined
turn_zf true one = λ e. cc
turn_zf false true = λ e. cc
turn_zf false false = λ e. cc

-- no count of a rotate undefines SF
turn_sf : (none one : Bool) → (if none then effects Kept Kept Kept Kept else (if one then effects Defined Kept Kept Defined else effects Defined Kept Kept Undefined)).sf ≢ Undefined
turn_sf true one = λ e. cc
turn_sf false true = λ e. cc
turn_sf false false = λ e. cc

-- no count of a rotate undefines CF
turn_cf : (none one : Bool) → (if none then effects Kept Kept Kept Kept else (if one then effects Defined Kept Kept Defined else effects Defined Kept Kept Undefined)).cf ≢ Undefined
turn_cf true one = λ e. cc
turn_cf false true = λ e. cc
turn_cf false false = λ e. cc

-- the row of a rotate by CL is the union of the rows by numbers
pub turns_by_cl : TurnsByCl
turns_by_cl W w =
    let start = start_of W w in
    let two = two_of W w in
    record {
      cf = kept_union (λ count. (turn_effects (masked W count)).cf) (rw start) (λ count. turn_cf (masked W count == 0) (masked W count == 1));
      zf = kept_union (λ count. (turn_effects (masked W count)).zf) (rw start) (λ count. turn_zf (masked W count == 0) (masked W count == 1));
      sf = kept_union (λ count. (turn_effects (masked W count)).sf) (rw start) (λ count. turn_sf (masked W count == 0) (masked W count == 1));
      of = undefined_union (λ count. (turn_effects (masked W count)).of) 2 (lit< tt) (rw two);
    }
