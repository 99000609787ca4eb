use Rattle.order_models.proofs.LocalLemmas.{never}
use Rattle.axiom_check.proofs.LanesLemmas.{rung_both, rung_alone}
use Rattle.axiom_check.proofs.lanes.push_rung.Goals as goal

pub returns-in_ok-push-2 : goal.returns-in_ok-push-2
returns-in_ok-push-2 c =
    let next = c.is_of_lane.ensures.0 c.if-is_of_lane.true in
    rung_both c.args.events c.args.targets.now c.args.place c.args.target next.0 _ _ _ next.1 next.2 c.in_ok-push.ensures.items c.in_ok-push-2.ensures.items

pub returns-else-is_of_lane : goal.returns-else-is_of_lane
returns-else-is_of_lane c =
    rung_alone c.args.events c.args.targets.now c.args.place c.args.target _ _ (never _ c.is_of_lane.ensures c.if-is_of_lane.false) c.in_ok-push.ensures.items
