use Rattle.axiom_check.proofs.gates.is_read_before.Goals as goal

pub returns-then-reads : goal.returns-then-reads
returns-then-reads c = λ f items lasts.
    let after = c.is_fence_after.ensures f items lasts in
    ((λ yes. (c.reads.ensures.0 c.if-reads.true, after.0 yes)), (λ both. after.1 both.1))
