-- SHL, SHR and SAR (Intel SDM volume 2, SAL/SAR/SHL/SHR).
use Rattle.std.specs.Prelude.{ℕ, ◌-◌, ◌*◌, ◌/◌, ◌%◌, ◌^◌, pos, Bool, false, ◌==◌}
use Rattle.std.specs.Int.{int_div_euclid}
use Rattle.word_arith.specs.Bits.{differ, top_bit}
use Rattle.word_arith.specs.Signed.{signed, low_bits}
use Rattle.alu_width.specs.declared.flags.Flags.{Flags}
use Rattle.alu_width.specs.declared.flags.Outcome.{Outcome}
use Rattle.alu_width.specs.declared.operations.Shift.{Shift}
use Rattle.alu_width.specs.declared.operations.Shift.TheVariants.{Shl, Shr, Sar}
use Rattle.alu_width.specs.Masked.{masked}
use Rattle.alu_width.specs.Effects.{settled, shift_effects}

-- the W bits of a shifted by n; SAR divides what they mean by 2 ^ n and rounds down
abbrev pub shifted : Shift → (W a n : ℕ) → ℕ
shifted Shl W a n = a * 2 ^ n % 2 ^ W
shifted Shr W a n = a / 2 ^ n
shifted Sar W a n = low_bits W (int_div_euclid (signed W a) (pos (2 ^ n)))

-- the last bit out of a shift by n, which is the first to go once a shift by one less is made
abbrev pub last_out : Shift → (W a n : ℕ) → Bool
last_out Shl W a n = top_bit W (shifted Shl W a (n - 1))
last_out Shr W a n = shifted Shr W a (n - 1) % 2 == 1
last_out Sar W a n = shifted Sar W a (n - 1) % 2 == 1

-- OF of a shift by 1: SHL the result's top bit differs from CF, SHR the operand's top bit, SAR 0
abbrev pub shift_overflow : Shift → (W a : ℕ) → Bool
shift_overflow Shl W a = differ (top_bit W (shifted Shl W a 1)) (last_out Shl W a 1)
shift_overflow Shr W a = top_bit W a
shift_overflow Sar W a = false

-- the value and the flags of a shift by a count, whose masked value says what becomes of each flag
unfoldable pub shift_outcome : Shift → (W a count : ℕ) → Flags → Outcome
shift_outcome op W a count old =
    let n = masked W count in
    let v = shifted op W a n in
    let new : Flags = record { cf = last_out op W a n; zf = v == 0; sf = top_bit W v; of = shift_overflow op W a } in
    record { value = v; flags = settled (shift_effects op W n) new old }
