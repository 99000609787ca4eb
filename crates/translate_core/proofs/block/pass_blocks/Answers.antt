use Rattle.std.proofs.Common.{◌≤◌, ◌<◌, length, arith}
use Rattle.translate_core.proofs.PassedBlocks.{none_passed, passed_more, all_passed}
use Rattle.translate_core.proofs.block.pass_blocks.Goals as goal

pub loop-number-init : goal.loop-number-init
loop-number-init c = none_passed c.args.private.now.slots c.args.code.now c.args.code.now.blocks c.new-blocks.result.items c.new-blocks.ensures.items

pub loop-number-preserved : goal.loop-number-preserved
loop-number-preserved c =
    let below : c.loop-number.number < length c.args.code.now.blocks = omega arith in
    passed_more c.args.private.now.slots c.args.code.now c.loop-number.number c.loop-number.blocks.items c.push.new.self.items c.in_ok-block.block below
    c.in_ok-push.ensures.items c.in_ok-block.ensures.first c.in_ok-block.ensures.passed c.in_ok-block.ensures.layable c.in_ok-block.ensures.leads c.loop-number.invariant

pub returns : goal.returns
returns c =
    let past : length c.args.code.now.blocks ≤ c.loop-number.number = omega arith in
    all_passed c.args.private.now.slots c.args.code.now c.loop-number.number c.loop-number.blocks.items c.of.result past c.of.ensures c.loop-number.invariant
