use Rattle.std.proofs.Common.{below_more, arith}
use Rattle.axiom_check.proofs.atomic.is_written.Goals as goal

pub loop-thread-preserved : goal.loop-thread-preserved
loop-thread-preserved c = below_more _ _ c.loop-thread.invariant (λ place slot other low high stands is.
    let found = c.is_written_by.ensures place slot other low high stands is in
    let not_found = c.if-is_written_by.false in
    cc)

pub returns : goal.returns
returns c = λ thread place slot less other low high stands is. absurd (c.loop-thread.invariant thread (omega arith) place slot other low high stands is)
