use Rattle.std.proofs.Common.{◌*◌, refl, ap, arith}
use Rattle.std.proofs.lemmas.Int.Digits.{digits_value_more}
use Rattle.std.proofs.lemmas.List.Elements.{All-more}
use Rattle.exec_text.specs.Numbers.{IsDigit}
use Rattle.exec_text.proofs.NumberLemmas.{next_fits}
use Rattle.exec_text.proofs.numbers.number.Goals as goal

pub overflow_mul-value : goal.overflow_mul-value
overflow_mul-value c =
    let fits = next_fits c.args.radix c.args.most c.args.text.now c.loop-byte.byte-index c.requires.low c.requires.fits (c.if-not-may_stand.ensures.0 refl).1 c.loop-byte-test.true c.loop-byte.invariant.digits c.in-Some.ensures.0 in
    omega (arith, fits, ap (λ v. v * c.args.radix) c.loop-byte.invariant.value)

pub overflow_add-value : goal.overflow_add-value
overflow_add-value c =
    let fits = next_fits c.args.radix c.args.most c.args.text.now c.loop-byte.byte-index c.requires.low c.requires.fits (c.if-not-may_stand.ensures.0 refl).1 c.loop-byte-test.true c.loop-byte.invariant.digits c.in-Some.ensures.0 in
    omega (arith, fits, c.in-Some.ensures.1, ap (λ v. v * c.args.radix) c.loop-byte.invariant.value)

pub loop-byte-preserved : goal.loop-byte-preserved
loop-byte-preserved c =
    let i = c.loop-byte.byte-index in
    record {
      value = omega (arith, digits_value_more c.args.radix c.args.text.now i c.loop-byte-test.true, c.in-Some.ensures.1, ap (λ v. v * c.args.radix) c.loop-byte.invariant.value);
      digits = All-more (IsDigit c.args.radix) c.args.text.now i 0 c.loop-byte-test.true c.loop-byte.invariant.digits c.in-Some.ensures.0;
    }
