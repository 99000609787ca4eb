use Rattle.order_models.proofs.LocalLemmas.{never}
use Rattle.axiom_check.proofs.atomic.comes_between.Goals as goal

pub returns-then-is_rival : goal.returns-then-is_rival
returns-then-is_rival c = λ co m n told writes there here.
    let rival = c.is_rival.ensures.0 c.if-is_rival.true in
    let both = c.overwrites_before.ensures co m n told writes rival.writes there here in
    ((λ holds. let found = both.0 holds in record { rival = rival; earlier = found.0; over = found.1 }), (λ between. both.1 (between.earlier, between.over)))

pub returns : goal.returns
returns c = λ co m n told writes there here.
    ((λ holds. absurd cc), (λ between. absurd (never _ c.is_rival.ensures c.if-is_rival.false between.rival)))
