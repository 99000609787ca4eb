-- How the rows of shifts and rotates by CL, whose count is not known, hang together with the rows by a number.
use Rattle.std.specs.Prelude.{ℕ, ◌<◌, ◌↔◌, Bool, IsTrue}
use Rattle.word_arith.specs.Width.{IsWidth}
use Rattle.alu_width.specs.declared.operations.Shift.{Shift}
use Rattle.alu_width.specs.Effects.{Effect, Effects, leaves_undefined, shift_effects, turn_effects, shift_by_cl_effects, turn_by_cl_effects}
use Rattle.alu_width.specs.Masked.{masked}

-- the effect `whole` leaves a flag undefined exactly where some count below 256 has an effect that does
abbrev pub IsUnion : (whole : Effect) (at : ℕ → Effect) → Type 0
IsUnion whole at =
    (was : Bool) → IsTrue (leaves_undefined whole was) ↔ ((count : ℕ) × (count < 256) × IsTrue (leaves_undefined (at count) was))

-- the same for each of the four flags
pub record IsUnionOfRows (whole : Effects) (at : ℕ → Effects) : Type 0 where
  pub cf : IsUnion whole.cf (λ count. (at count).cf)
  pub zf : IsUnion whole.zf (λ count. (at count).zf)
  pub sf : IsUnion whole.sf (λ count. (at count).sf)
  pub of : IsUnion whole.of (λ count. (at count).of)

-- a shift by CL leaves a flag undefined exactly where the same shift by some number does
abbrev pub ShiftsByCl : Type 0
ShiftsByCl = (op : Shift) (W : ℕ) → IsWidth W → IsUnionOfRows (shift_by_cl_effects op W) (λ count. shift_effects op W (masked W count))

-- a rotate by CL leaves a flag undefined exactly where the same rotate by some number does
abbrev pub TurnsByCl : Type 0
TurnsByCl = (W : ℕ) → IsWidth W → IsUnionOfRows turn_by_cl_effects (λ count. turn_effects (masked W count))
