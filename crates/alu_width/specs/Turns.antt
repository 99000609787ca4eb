-- ROL and ROR (Intel SDM volume 2, RCL/RCR/ROL/ROR).
use Rattle.std.specs.Prelude.{ℕ, ◌-◌, ◌%◌, ◌==◌, Bool}
use Rattle.std.specs.Int.{bit_at}
use Rattle.word_arith.specs.Bits.{differ, top_bit}
use Rattle.word_arith.specs.Turns.{turn_left}
use Rattle.alu_width.specs.declared.flags.Flags.{Flags}
use Rattle.alu_width.specs.declared.flags.Outcome.{Outcome}
use Rattle.alu_width.specs.declared.operations.Rotate.{Rotate}
use Rattle.alu_width.specs.declared.operations.Rotate.TheVariants.{Rol, Ror}
use Rattle.alu_width.specs.Masked.{masked}
use Rattle.alu_width.specs.Effects.{settled, turn_effects}

-- the W bits of a turned by k, below W
abbrev pub turned : Rotate → (W a k : ℕ) → ℕ
turned Rol W a k = turn_left W a k
turned Ror W a k = turn_left W a ((W - k) % W)

-- CF from the turned value: its low bit for ROL, its top bit for ROR
abbrev pub turn_carry : Rotate → (W v : ℕ) → Bool
turn_carry Rol W v = v % 2 == 1
turn_carry Ror W v = top_bit W v

-- OF of a turn by 1, from the turned value: ROL its top bit differs from CF, ROR its two top bits differ
abbrev pub turn_overflow : Rotate → (W v : ℕ) → Bool
turn_overflow Rol W v = differ (top_bit W v) (v % 2 == 1)
turn_overflow Ror W v = differ (top_bit W v) (bit_at v (W - 2) == 1)

-- the value and the flags of a rotate by a count: the masked count modulo W turns, and the masked count itself says what becomes of each flag
unfoldable pub rotate_outcome : Rotate → (W a count : ℕ) → Flags → Outcome
rotate_outcome op W a count old =
    let n = masked W count in
    let v = turned op W a (n % W) in
    let new : Flags = record old { cf = turn_carry op W v; of = turn_overflow op W v } in
    record { value = v; flags = settled (turn_effects n) new old }
