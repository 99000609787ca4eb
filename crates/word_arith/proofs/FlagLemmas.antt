-- Flags as numbers, 0 or 1, and what operations on words make of them.
use Rattle.std.proofs.Common.{◌≡◌, ◌<◌, Bool, true, false, refl, lit<}
use Rattle.std.specs.Prelude.{not, ◌&&◌, ◌||◌, ◌==◌, bit_and, bit_or, bit_xor}
use Rattle.word_arith.specs.Bits.{bit, differ}

-- a flag is below 2
pub bit_below : (b : Bool) → bit b < 2
bit_below true = lit< tt
bit_below false = lit< tt

-- a flag is 0 where it is not set
pub bit_is_zero : (b : Bool) → (bit b == 0) ≡ not b
bit_is_zero true = refl
bit_is_zero false = refl

-- the opposite of a flag, by `^ 1`
pub bit-not : (b : Bool) → bit (not b) ≡ bit_xor (bit b) 1
bit-not true = refl
bit-not false = refl

-- both of two flags, by `&`
pub bit-and : (a b : Bool) → bit (a && b) ≡ bit_and (bit a) (bit b)
bit-and true true = refl
bit-and true false = refl
bit-and false true = refl
bit-and false false = refl

-- one of two flags, by `|`
pub bit-or : (a b : Bool) → bit (a || b) ≡ bit_or (bit a) (bit b)
bit-or true true = refl
bit-or true false = refl
bit-or false true = refl
bit-or false false = refl

-- whether two flags differ, by `^`
pub bit-differ : (a b : Bool) → bit (differ a b) ≡ bit_xor (bit a) (bit b)
bit-differ true true = refl
bit-differ true false = refl
bit-differ false true = refl
bit-differ false false = refl
