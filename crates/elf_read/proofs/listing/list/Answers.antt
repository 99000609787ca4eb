use Rattle.std.proofs.Common.{arith, below_more, sym, ◌∙◌}
use Rattle.elf_read.proofs.ListingLemmas.{lists_same, no_repeat_unlisted, lists_more, no_repeat_first, repeats, value_of_some, none_of_some}
use Rattle.elf_read.proofs.listing.list.Goals as goal

pub loop-i-preserved-in_default : goal.loop-i-preserved-in_default
loop-i-preserved-in_default c = record {
  listed = lists_same _ _ _ _ c.loop-i.invariant.listed c.in_default.ensures.none;
  once = below_more _ _ c.loop-i.invariant.once (no_repeat_unlisted _ _ _ c.in_default.ensures.none);
}

pub returns-then-is_some-clause-repeated : goal.returns-then-is_some-clause-repeated
returns-then-is_some-clause-repeated c =
    let some = value_of_some c.get.result (sym c.is_some.ensures ∙ c.if-is_some.true) in
    repeats _ _ c.loop-i.i some.0 c.loop-i.listing c.in-Some.name c.in-Some.ensures.some.0 c.loop-i.invariant.listed (omega arith) c.in-Some.ensures.some.1 (sym c.get.ensures ∙ some.1)

pub loop-i-preserved : goal.loop-i-preserved
loop-i-preserved c =
    let none = sym c.get.ensures ∙ none_of_some c.get.result (sym c.is_some.ensures ∙ c.if-is_some.false) in
    let named = c.in-Some.ensures.some in
    record {
      listed = lists_more _ _ _ c.loop-i.listing _ c.in-Some.name named.0 c.loop-i.invariant.listed named.1 none (cc) c.with-listing.ensures.others;
      once = below_more _ _ c.loop-i.invariant.once (no_repeat_first _ _ _ c.loop-i.listing c.in-Some.name named.0 c.loop-i.invariant.listed named.1 none);
    }

pub returns-clause-once : goal.returns-clause-once
returns-clause-once c = λ i repeated. c.loop-i.invariant.once i (omega (arith, repeated.2.0)) repeated
