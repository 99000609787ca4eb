-- Digits, one after another.
use Rattle.std.proofs.Common.{ℕ, ◌<◌, ◌≤◌, ◌+◌, ◌*◌, ◌^◌, List, [], ◌∷◌, length, get_or, take, arith}
use Rattle.std.specs.Char.{digit_value}
use Rattle.std.specs.List.{All}
use Rattle.std.specs.Str.Parse.{AllDigits, digits_value}
use Rattle.std.proofs.Math.Nat.{pow-le-pow_right}
use Rattle.std.proofs.lemmas.Int.Digits.{digits_value-lt, digits_value_more}
use Rattle.std.proofs.lemmas.List.{length-take}
use Rattle.std.proofs.lemmas.List.Elements.{All-head, All-tail, All-more}
use Rattle.exec_text.specs.Numbers.{IsDigit}

-- digits are digits to the parser of numbers too
pub all_digits : (radix : ℕ) (text : List ℕ) → All (IsDigit radix) text → AllDigits radix text
all_digits radix [] digits = tt
all_digits radix (c ∷ cs) digits = ((All-head (IsDigit radix) c cs digits).0, all_digits radix cs (All-tail (IsDigit radix) c cs digits))

-- so many digits write a number of 64 bits
pub digits_fit : (radix most : ℕ) (text : List ℕ) → 2 ≤ radix → radix ^ most ≤ 2 ^ 64 → length text ≤ most → All (IsDigit radix) text → digits_value radix text < 2 ^ 64
digits_fit radix most text low fits short digits =
    let small = digits_value-lt radix text (all_digits radix text digits) in
    let some : 0 < radix = omega arith in
    omega (arith, small, pow-le-pow_right some short)

-- with one digit more
pub next_fits : (radix most : ℕ) (text : List ℕ) (i : ℕ) → 2 ≤ radix → radix ^ most ≤ 2 ^ 64 → length text ≤ most → i < length text
    → All (IsDigit radix) (take i text) → IsDigit radix (get_or text i 0) → digits_value radix (take i text) * radix + digit_value (get_or text i 0) < 2 ^ 64
next_fits radix most text i low fits short here digits next =
    let more = All-more (IsDigit radix) text i 0 here digits next in
    let size : length (take (i + 1) text) ≤ most = omega (arith, length-take (i + 1) text) in
    omega (arith, digits_fit radix most (take (i + 1) text) low fits size more, digits_value_more radix text i here)
