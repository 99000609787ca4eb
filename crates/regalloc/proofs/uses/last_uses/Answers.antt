use Rattle.regalloc.proofs.Numbers.{last_at_end}
use Rattle.regalloc.proofs.uses.last_uses.Goals as goal

pub returns : goal.returns
returns c =
    let block = c.args.block.now in
    last_at_end block.end block.steps c.as_slice-words.result.now c.operand_of.result _ _ c.as_slice-words.ensures c.operand_of.ensures c.in_ok-last.ensures c.in_ok-note_each.ensures
