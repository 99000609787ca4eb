use Rattle.order_models.proofs.LocalLemmas.{never}
use Rattle.axiom_check.proofs.AtomicLemmas.{over_by_place}
use Rattle.axiom_check.proofs.atomic.overwrites_byte.Goals as goal

pub returns-then-covers : goal.returns-then-covers
returns-then-covers c = λ co once listed known from.
    let place = over_by_place co once c.args.write.now c.args.source c.start_of.result c.args.behind (c.start_of.ensures co listed known) from in
    ((λ holds. (c.covers.ensures.0 c.if-covers.true, place.0 (c.precedes.ensures.0 holds))), (λ both. c.precedes.ensures.1 (place.1 both.1)))

pub returns : goal.returns
returns c = λ co once listed known from. ((λ holds. absurd cc), (λ both. absurd (never _ c.covers.ensures c.if-covers.false both.0)))
