use Rattle.axiom_check.specs.Lanes.{Crosses}
use Rattle.axiom_check.proofs.Graphs.{answered, crosses_within}
use Rattle.axiom_check.proofs.lanes.Lanes.order.Goals as goal

pub returns : goal.returns
returns c =
    let lanes = c.args.self in
    let asked = c.requires in
    answered (λ v. v.items) c.args.events c.in_ok-graph.graph.nodes c.in_ok-graph.graph.edges.items (Crosses lanes.direct.items lanes.sources.items lanes.targets.items)
    c.in_ok-graph.ensures.graph c.in_ok-graph.ensures.more
    (crosses_within c.args.events lanes.direct.items lanes.sources.items lanes.targets.items asked.direct asked.sources asked.targets)
    c.in_ok-found.found c.in_ok-found.ensures
