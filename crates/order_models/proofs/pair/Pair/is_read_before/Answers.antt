use Rattle.order_models.proofs.pair.Pair.is_read_before.Goals as goal

pub returns-then-reads_first : goal.returns-then-reads_first
returns-then-reads_first c = λ items m n pair.
    let read = (c.reads_first.ensures items m n pair).0 c.if-reads_first.true in
    let fence = c.has_fence.ensures items m n pair in
    ((λ yes. (read, fence.0 yes)), (λ both. fence.1 both.1))
