-- How a number of rounds is written and read.
use Rattle.std.proofs.Common.{◌≡◌, ◌≢◌, ◌≤◌, ℕ, List, [], ◌∷◌, Result, Ok, sym, ◌∙◌, ap, subst, arith}
use Rattle.std.specs.Prelude.{decimal, slice_index}
use Rattle.std.specs.Str.Parse.{AllDigits, ParsesUnsigned, digits_value}
use Rattle.std.proofs.lemmas.Fmt.{decimal-digits_value, decimal_is_IsNumeral, parse-decimal, first_decimal}
use Rattle.std.proofs.lemmas.Result.{OkIff-at_ok}
use Rattle.std.proofs.lemmas.Str.Parse.{numerals_by_value, tells_digits, digit_from_value, parse_plain}
use Rattle.lasagne.specs.Shape.{AreRounds}

-- a text begins with a digit that is not 0
abbrev pub BeginsWithDigit : List ℕ → Type 0
BeginsWithDigit text = (49 ≤ slice_index text 0) × (slice_index text 0 ≤ 57)

first_digit : (text : List ℕ) → AllDigits 10 text → slice_index text 0 ≤ 57
first_digit [] digits = omega arith
first_digit (c ∷ cs) digits = (digit_from_value c digits.0).1

-- so does each number of rounds
pub begins : (n : ℕ) → AreRounds n → BeginsWithDigit (decimal n)
begins n are =
    let numeral = decimal_is_IsNumeral n (omega (arith, are.few)) in
    let first = first_decimal n (omega (arith, are.some)) (omega (arith, are.few)) in
    (omega (arith, first), first_digit (decimal n) numeral.0.1)

-- a text that begins otherwise writes no number of rounds
pub begins_otherwise : (text : List ℕ) → (BeginsWithDigit text → ⊥) → (n : ℕ) → AreRounds n → text ≢ decimal n
begins_otherwise text other n are same = other (subst BeginsWithDigit (sym same) (begins n are))

-- what is read of a text that begins so is what it writes
pub read : {E : Type 0} (text : List ℕ) (n : ℕ) (r : Result ℕ E) → ParsesUnsigned 32 10 text r → r ≡ Ok n → BeginsWithDigit text → text ≡ decimal n
read text n r parses is digit =
    let plain = parse_plain (numerals_by_value _ tells_digits) 32 text r parses (λ plus. omega (arith, plus, digit.0)) in
    let value = OkIff-at_ok r _ _ n plain is in
    let same : decimal (digits_value 10 text) ≡ text =
    decimal-digits_value (numerals_by_value _ tells_digits) text value.0.0 value.0.1 (λ zero. absurd (omega (arith, zero, digit.0)))
    (let small = value.0.2 in omega arith) in
    sym same ∙ ap decimal (sym value.1)

-- and a number of rounds is read
pub written : {E : Type 0} (text : List ℕ) (n : ℕ) (r : Result ℕ E) → ParsesUnsigned 32 10 text r → AreRounds n → text ≡ decimal n → r ≡ Ok n
written text n r parses are same = parse-decimal 32 n text r (let few = are.few in omega arith) (let few = are.few in omega arith) same parses
