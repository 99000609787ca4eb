use Rattle.regalloc.proofs.Numbers.{last_step}
use Rattle.regalloc.proofs.uses.last_in_words.Goals as goal

pub loop-at-preserved : goal.loop-at-preserved
loop-at-preserved c = last_step c.args.words.now c.loop-at.at _ c.numbers_of.result _ _ c.loop-at-test.true c.numbers_of.ensures c.loop-at.invariant c.in_ok-note_each.ensures
