use Rattle.gen_input.proofs.Rounds.{round_written}
use Rattle.gen_input.proofs.made.push_rounds.Goals as goal

pub loop-number-preserved : goal.loop-number-preserved
loop-number-preserved c = round_written c.args.code.now.items _ _ _ c.loop-number.number c.loop-number.invariant c.round.ensures c.in_ok-extend_from_slice.ensures.items
