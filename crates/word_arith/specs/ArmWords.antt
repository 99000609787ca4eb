-- What AArch64's data-processing words compute from words of w bits, 32 or 64, as far as no flag is in it (Arm ARM, C6.2, the operation
-- of each instruction). The lemmas that lead from x86-64's operations to these words stand on them.
use Rattle.std.specs.Prelude.{ℕ, ◌+◌, ◌-◌, ◌*◌, ◌/◌, ◌%◌, ◌^◌, pos, ◌*ℤ◌, Bool, ◌==◌, nat_le, int_div, if◌then◌else◌}
use Rattle.std.specs.Int.{int_div_euclid}
use Rattle.word_arith.specs.Bits.{field}
use Rattle.word_arith.specs.Signed.{signed, low_bits, extended}
use Rattle.word_arith.specs.Turns.{turn_left}

-- UBFM (false) and SBFM (true): the bits from immr to imms go to bit 0, or else the imms + 1 low bits to bit w - immr; zeros
-- stand below them, and above them zeros or copies of their top bit
unfoldable pub bitfield_move : (sign : Bool) (w immr imms n : ℕ) → ℕ
bitfield_move sign w immr imms n =
    if nat_le immr imms then extended sign w (imms - immr + 1) (field immr (imms - immr + 1) n)
    else extended sign immr (imms + 1) (field 0 (imms + 1) n) * 2 ^ (w - immr)

-- LSLV: a shift to the left by k modulo w
abbrev pub lslv : (w n k : ℕ) → ℕ
lslv w n k = n * 2 ^ (k % w) % 2 ^ w

-- LSRV: a shift to the right by zeros
abbrev pub lsrv : (w n k : ℕ) → ℕ
lsrv w n k = n / 2 ^ (k % w)

-- ASRV: a shift to the right by the sign
abbrev pub asrv : (w n k : ℕ) → ℕ
asrv w n k = low_bits w (int_div_euclid (signed w n) (pos (2 ^ (k % w))))

-- RORV: a turn to the right
abbrev pub rorv : (w n k : ℕ) → ℕ
rorv w n k = turn_left w n ((w - k % w) % w)

-- MADD: m plus the product
abbrev pub madd : (w m a b : ℕ) → ℕ
madd w m a b = (m + a * b) % 2 ^ w

-- MSUB: m minus the product
abbrev pub msub : (w m a b : ℕ) → ℕ
msub w m a b = (m + (2 ^ w - a * b % 2 ^ w)) % 2 ^ w

-- UMULH: the upper half of the double product of 64 bits, without sign
abbrev pub umulh : (a b : ℕ) → ℕ
umulh a b = a * b / 2 ^ 64

-- SMULH: the same with sign
unfoldable pub smulh : (a b : ℕ) → ℕ
smulh a b = low_bits 128 (signed 64 a *ℤ signed 64 b) / 2 ^ 64

-- UDIV: by 0 it gives 0
abbrev pub udiv : (w a b : ℕ) → ℕ
udiv w a b = if b == 0 then 0 else a / b

-- SDIV, rounded towards zero: by 0 it gives 0, and the least number by -1 gives itself
unfoldable pub sdiv : (w a b : ℕ) → ℕ
sdiv w a b = if b == 0 then 0 else low_bits w (int_div (signed w a) (signed w b))

-- the value of SUB and SUBS
abbrev pub subs_value : (w a b : ℕ) → ℕ
subs_value w a b = (a + (2 ^ w - b)) % 2 ^ w
