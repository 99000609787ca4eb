use Rattle.std.proofs.Common.{◌≡◌, ◌∙◌, Ok, refl, sym, subst, arith}
use Rattle.std.proofs.lemmas.Bool.{false≢true}
use Rattle.lasagne.proofs.RoundLemmas.{BeginsWithDigit, begins_otherwise, read, written}
use Rattle.lasagne.proofs.rounds.rounds_of.Goals as goal

pub returns-then-not-begins_with_digit : goal.returns-then-not-begins_with_digit
returns-then-not-begins_with_digit c =
    begins_otherwise c.args.word.now (λ digit. false≢true (c.if-not-begins_with_digit.ensures.1 (subst BeginsWithDigit (sym (c.as_bytes.ensures.value ∙ c.as_str-text.ensures)) digit)))

pub returns-in-Ok : goal.returns-in-Ok
returns-in-Ok c = (
  record { some = omega (arith, c.if-rounds-ge1.true); few = omega (arith, c.if-rounds-le-MOST_ROUNDS.true) },
  sym c.as_str-text.ensures
      ∙ read c.as_str-text.result.now c.in-Ok.rounds c.parse.result c.parse.ensures.value.0 c.in-Ok.is
      (subst BeginsWithDigit c.as_bytes.ensures.value (c.if-not-begins_with_digit.ensures.0 refl)),
)

pub returns-in_default : goal.returns-in_default
returns-in_default c =
    λ n are same. (let is : c.parse.result ≡ Ok n = written c.as_str-text.result.now n c.parse.result c.parse.ensures.value.0 are (c.as_str-text.ensures ∙ same) in
    let found = c.in-Ok.is in
    let one : n ≡ c.in-Ok.rounds = cc in
    omega (arith, one, are.few, c.if-rounds-le-MOST_ROUNDS.false))

pub returns-in_default-2 : goal.returns-in_default-2
returns-in_default-2 c =
    λ n are same. (let is : c.parse.result ≡ Ok n = written c.as_str-text.result.now n c.parse.result c.parse.ensures.value.0 are (c.as_str-text.ensures ∙ same) in
    let found = c.in-Ok.is in
    let one : n ≡ c.in-Ok.rounds = cc in
    omega (arith, one, are.some, c.if-rounds-ge1.false))

pub returns-in_default-3 : goal.returns-in_default-3
returns-in_default-3 c =
    λ n are same. (let is : c.parse.result ≡ Ok n = written c.as_str-text.result.now n c.parse.result c.parse.ensures.value.0 are (c.as_str-text.ensures ∙ same) in
    let none = c.in_default.is in
    absurd cc)
