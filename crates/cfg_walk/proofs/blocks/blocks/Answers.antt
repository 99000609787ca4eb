use Rattle.std.proofs.Common.{◌≡◌, List, sym, subst, arith, reverse, length}
use Rattle.cfg_walk.specs.declared.code.Block.{Block}
use Rattle.cfg_walk.specs.Code.{AreBlocks}
use Rattle.cfg_walk.proofs.BlockLemmas.{Made, made_none, made_all, step_over, step_begun}
use Rattle.cfg_walk.proofs.blocks.blocks.Goals as goal

pub loop-place-init : goal.loop-place-init
loop-place-init c = record {
  few = omega arith;
  made = λ program known are.
      subst (λ (bs : List Block). Made program c.args.placed.now (length c.args.placed.now) (reverse bs) 0) (sym c.new-blocks.ensures.items)
      (made_none program c.args.placed.now);
}

pub loop-place-preserved-then-has_address : goal.loop-place-preserved-then-has_address
loop-place-preserved-then-has_address c = record {
  few = omega arith;
  made = λ program known are.
      step_begun program c.args.placed.now c.args.leaders.now c.loop-place.blocks.items c.push.new.self.items c.loop-place.place c.loop-place.count _ c.has_address.result
      c.loop-place-test.true c.loop-place.auto.place known are c.if-has_address.true c.has_address.ensures c.in_ok-push.ensures.items
      (c.loop-place.invariant.made program known are);
}

pub loop-place-preserved : goal.loop-place-preserved
loop-place-preserved c = record {
  few = omega arith;
  made = λ program known are.
      step_over program c.args.placed.now c.args.leaders.now c.loop-place.blocks.items c.loop-place.place c.loop-place.count _ c.has_address.result
      c.loop-place-test.true c.loop-place.auto.place known are c.if-has_address.false c.has_address.ensures
      (c.loop-place.invariant.made program known are);
}

pub returns : goal.returns
returns c = λ program known are.
    let none : c.loop-place.place ≡ 0 = omega arith in
    subst (AreBlocks program) (sym c.reverse.ensures.items)
    (made_all program c.args.placed.now known (reverse c.loop-place.blocks.items) c.loop-place.count
    (subst (λ k. Made program c.args.placed.now k (reverse c.loop-place.blocks.items) c.loop-place.count) none (c.loop-place.invariant.made program known are)))
