use Rattle.axiom_check.proofs.NumberLemmas.{edge_gained}
use Rattle.axiom_check.proofs.events.push_edge.Goals as goal

pub returns : goal.returns
returns c =
    edge_gained c.args.events.now.accesses.items c.args.events.now.firsts.items c.requires c.args.first c.args.second c.in-Some.from.number c.in-Some-look.to.number
    c.in-Some.from.access c.in-Some-look.to.access _ _ c.in-Some.ensures.some c.in-Some-look.ensures.some c.in_ok-push.ensures.items
