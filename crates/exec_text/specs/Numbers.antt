-- How numbers are written.
use Rattle.std.specs.Prelude.{◌≡◌, ℕ, ◌≤◌, ◌<◌, ◌⊎◌, List, length, slice_index, All}
use Rattle.std.specs.Char.{digit_value}
use Rattle.std.specs.Str.Parse.{digits_value}

-- a digit of the radix: '0' to '9', and then 'a' on, in lower case alone
abbrev pub IsDigit : ℕ → ℕ → Type 0
IsDigit radix byte = (digit_value byte < radix) × ((byte < 65) ⊎ (90 < byte))

-- the number n in this radix: 1 to so many digits, the first no 0 unless it is the only one
pub record IsNumber (radix most : ℕ) (text : List ℕ) (n : ℕ) : Type 0 where
  pub some : 1 ≤ length text
  pub short : length text ≤ most
  pub digits : All (IsDigit radix) text
  pub plain : slice_index text 0 ≡ 48 → length text ≡ 1
  pub value : n ≡ digits_value radix text

-- a decimal number, of at most ten digits
abbrev pub IsDecimal : List ℕ → ℕ → Type 0
IsDecimal = IsNumber 10 10

-- a hexadecimal number, of at most sixteen digits
abbrev pub IsHex : List ℕ → ℕ → Type 0
IsHex = IsNumber 16 16
