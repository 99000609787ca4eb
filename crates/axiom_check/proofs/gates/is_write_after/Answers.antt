use Rattle.axiom_check.proofs.gates.is_write_after.Goals as goal

pub returns-then-writes : goal.returns-then-writes
returns-then-writes c = λ f items lasts.
    let after = c.is_fence_after.ensures f items lasts in
    ((λ yes. (c.writes.ensures.0 c.if-writes.true, after.0 yes)), (λ both. after.1 both.1))
