use Rattle.std.proofs.Common.{get_or, refl, length, arith}
use Rattle.ev_graph.specs.declared.execution.Stack.{Stack}
use Rattle.elf_write.specs.Image.{image_parts}
use Rattle.arm_replay.proofs.LayoutLemmas.{drop_here, get_at, placed_there, placed_more}
use Rattle.arm_replay.proofs.layout.first_unplaced.Goals as goal

pub returns-then-not-is_placed : goal.returns-then-not-is_placed
returns-then-not-is_placed c =
    let stacks = c.args.stacks.now in
    let k = c.loop-k.k in
    let none : Stack = record { lo = 0; hi = 0 } in
    let stack = get_or stacks k none in
    let here = get_at stacks k stack (drop_here stacks k none c.loop-k-test.true) in
    record {
      stack = stack;
      here = here;
      unplaced = λ placed. let told = c.if-not-is_placed.ensures.1 ((placed_there (image_parts c.args.image.now) stacks k stack).1 placed) in absurd (cc);
      before = c.loop-k.invariant;
    }

pub loop-k-preserved : goal.loop-k-preserved
loop-k-preserved c =
    let stacks = c.args.stacks.now in
    let k = c.loop-k.k in
    let none : Stack = record { lo = 0; hi = 0 } in
    let stack = get_or stacks k none in
    let parts = image_parts c.args.image.now in
    let here = get_at stacks k stack (drop_here stacks k none c.loop-k-test.true) in
    placed_more parts stacks k stack here ((placed_there parts stacks k stack).0 (c.if-not-is_placed.ensures.0 refl)) c.loop-k.invariant

pub returns : goal.returns
returns c = λ j stack lt here. c.loop-k.invariant j stack (omega (arith, lt)) here
