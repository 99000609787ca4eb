use Rattle.axiom_check.proofs.BytesLemmas.{place_set}
use Rattle.axiom_check.proofs.bytes.set_place.Goals as goal

pub returns : goal.returns
returns c = λ co place once here is before.
    place_set c.args.events.now.accesses.items c.args.events.now.firsts.items c.requires.numbered co place c.args.id c.in-Some.found.number c.args.behind c.in-Some.found.access
    c.args.places.now.items once here is c.in-Some.ensures.some before
