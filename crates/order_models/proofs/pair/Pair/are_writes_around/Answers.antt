use Rattle.order_models.proofs.pair.Pair.are_writes_around.Goals as goal

pub returns-then-writes_both : goal.returns-then-writes_both
returns-then-writes_both c = λ items m n pair.
    let writes = (c.writes_both.ensures items m n pair).0 c.if-writes_both.true in
    let fence = c.has_fence.ensures items m n pair in
    ((λ yes. (writes.0, writes.1, fence.0 yes)), (λ all. fence.1 all.2))
