use Rattle.axiom_check.proofs.DoorsBack.{laned, lanes_below, found_pairs}
use Rattle.axiom_check.proofs.event_order.order_numbers.Goals as goal

pub order-requires-clause-direct : goal.order-requires-clause-direct
order-requires-clause-direct g c =
    let x = c.args.x.now in
    let events = c.args.events.now in
    let made = c.in_ok-lanes.lanes in
    let told = c.in_ok-lanes.ensures in
    let model = g.M.OrderModel in
    let laws = g.met.M.OrderModel in
    (lanes_below x events.accesses.items events.firsts.items model.order model.doors model.INTERNAL made.sources.items made.targets.items made.direct.items c.count.result c.count.ensures
    (laned x events.accesses.items events.firsts.items model.order model.doors model.INTERNAL made.sources.items made.targets.items made.direct.items model.DOORS
    c.requires.judgeable c.requires.all c.requires.numbered told.few laws.law_of_doors laws.door_count laws.few_doors laws.own_kinds told.sources told.targets told.direct)).0

pub order-requires-clause-sources : goal.order-requires-clause-sources
order-requires-clause-sources g c =
    let x = c.args.x.now in
    let events = c.args.events.now in
    let made = c.in_ok-lanes.lanes in
    let told = c.in_ok-lanes.ensures in
    let model = g.M.OrderModel in
    let laws = g.met.M.OrderModel in
    (lanes_below x events.accesses.items events.firsts.items model.order model.doors model.INTERNAL made.sources.items made.targets.items made.direct.items c.count.result c.count.ensures
    (laned x events.accesses.items events.firsts.items model.order model.doors model.INTERNAL made.sources.items made.targets.items made.direct.items model.DOORS
    c.requires.judgeable c.requires.all c.requires.numbered told.few laws.law_of_doors laws.door_count laws.few_doors laws.own_kinds told.sources told.targets told.direct)).1

pub order-requires-clause-targets : goal.order-requires-clause-targets
order-requires-clause-targets g c =
    let x = c.args.x.now in
    let events = c.args.events.now in
    let made = c.in_ok-lanes.lanes in
    let told = c.in_ok-lanes.ensures in
    let model = g.M.OrderModel in
    let laws = g.met.M.OrderModel in
    (lanes_below x events.accesses.items events.firsts.items model.order model.doors model.INTERNAL made.sources.items made.targets.items made.direct.items c.count.result c.count.ensures
    (laned x events.accesses.items events.firsts.items model.order model.doors model.INTERNAL made.sources.items made.targets.items made.direct.items model.DOORS
    c.requires.judgeable c.requires.all c.requires.numbered told.few laws.law_of_doors laws.door_count laws.few_doors laws.own_kinds told.sources told.targets told.direct)).2

pub returns : goal.returns
returns g c =
    let x = c.args.x.now in
    let events = c.args.events.now in
    let made = c.in_ok-lanes.lanes in
    let told = c.in_ok-lanes.ensures in
    let model = g.M.OrderModel in
    let laws = g.met.M.OrderModel in
    found_pairs (λ v. v.items) x events.accesses.items events.firsts.items model.order model.doors model.INTERNAL made.sources.items made.targets.items made.direct.items c.count.result c.count.ensures
    (laned x events.accesses.items events.firsts.items model.order model.doors model.INTERNAL made.sources.items made.targets.items made.direct.items model.DOORS
    c.requires.judgeable c.requires.all c.requires.numbered told.few laws.law_of_doors laws.door_count laws.few_doors laws.own_kinds told.sources told.targets told.direct)
    c.in_ok-found.found c.in_ok-found.ensures
