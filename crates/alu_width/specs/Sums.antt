-- Sums and differences of W bits with a carry, logic, and the flags that they set (Intel SDM volume 1, 3.4.3).
use Rattle.std.specs.Prelude.{ℕ, ◌+◌, ◌-◌, ◌%◌, ◌^◌, pos, ◌+ℤ◌, ◌-ℤ◌, Bool, not, ◌==◌, nat_lt, nat_le, bit_and, bit_or, bit_xor}
use Rattle.word_arith.specs.Bits.{top_bit}
use Rattle.word_arith.specs.Signed.{signed, fits_signed}
use Rattle.alu_width.specs.declared.flags.Outcome.{Outcome}
use Rattle.alu_width.specs.declared.operations.Logic.{Logic}
use Rattle.alu_width.specs.declared.operations.Logic.TheVariants.{And, Or, Xor}

-- a value of W bits with its flags: ZF where it is 0, SF its top bit, CF and OF as given
unfoldable pub outcome : (W v : ℕ) (carry overflow : Bool) → Outcome
outcome W v carry overflow = record { value = v; flags = record { cf = carry; zf = v == 0; sf = top_bit W v; of = overflow } }

-- a + b + c: CF is the carry out, and OF says that the exact sum of what a and b mean does not fit W bits
unfoldable pub sum_outcome : (W a b c : ℕ) → Outcome
sum_outcome W a b c =
    outcome W ((a + b + c) % 2 ^ W) (nat_le (2 ^ W) (a + b + c)) (not (fits_signed W (signed W a +ℤ signed W b +ℤ pos c)))

-- a - b - c: CF is the borrow, and OF says that the exact difference of what a and b mean does not fit W bits
unfoldable pub difference_outcome : (W a b c : ℕ) → Outcome
difference_outcome W a b c =
    outcome W ((a + (2 ^ W - (b + c))) % 2 ^ W) (nat_lt a (b + c)) (not (fits_signed W (signed W a -ℤ signed W b -ℤ pos c)))

-- AND, OR or XOR, bit by bit
abbrev pub logic_value : Logic → (a b : ℕ) → ℕ
logic_value And a b = bit_and a b
logic_value Or a b = bit_or a b
logic_value Xor a b = bit_xor a b
