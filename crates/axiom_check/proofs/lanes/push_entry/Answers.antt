use Rattle.order_models.proofs.LocalLemmas.{never}
use Rattle.axiom_check.proofs.LanesLemmas.{entry_there, entry_none}
use Rattle.axiom_check.proofs.lanes.push_entry.Goals as goal

pub returns-in_ok-push : goal.returns-in_ok-push
returns-in_ok-push c = λ i.
    entry_there c.args.events c.args.targets.now i c.args.source _ _ _ c.first_at-place.ensures.first (c.is_of_lane.ensures.0 c.if-is_of_lane.true) c.in_ok-push.ensures.items

pub returns-else-is_of_lane : goal.returns-else-is_of_lane
returns-else-is_of_lane c = λ i.
    entry_none c.args.events c.args.targets.now i c.args.source _ _ c.first_at-place.ensures.first (never _ c.is_of_lane.ensures c.if-is_of_lane.false)
