use Rattle.std.proofs.Common.{◌≡◌, true, false, refl}
use Rattle.axiom_check.proofs.Ordering.{all_of, cyclic_some, found_cycle, found_order}
use Rattle.axiom_check.proofs.event_order.order_of.Goals as goal

pub returns-in-Some-clause-order : goal.returns-in-Some-clause-order
returns-in-Some-clause-order g c =
    let x = c.args.x.now in
    let events = c.in_ok-events.events in
    let told = c.in_ok-events.ensures in
    let model = g.M.OrderModel in
    found_order (λ v. v.items) model.order model.INTERNAL x events.accesses.items events.firsts.items c.requires.shaped.indexed
    (all_of events.accesses.items c.as_slice.result.now x.threads c.as_slice.ensures told.accesses) told.numbered
    c.in_ok-order.field-0 c.in-Some.order c.in-Some.is c.in_ok-order.ensures c.as_slice-in-Some.result.now c.as_slice-in-Some.ensures.value
    c.in_ok-ids_of-in-Some.field-0.items c.of-in-Some.result c.in_ok-ids_of-in-Some.ensures c.of-in-Some.ensures

pub returns-in-Some-clause-cyclic : goal.returns-in-Some-clause-cyclic
returns-in-Some-clause-cyclic g c =
    let x = c.args.x.now in
    let events = c.in_ok-events.events in
    let told = c.in_ok-events.ensures in
    let model = g.M.OrderModel in
    cyclic_some model.order model.INTERNAL x c.of-in-Some.result (true ≡ false)
    (found_order (λ v. v.items) model.order model.INTERNAL x events.accesses.items events.firsts.items c.requires.shaped.indexed
    (all_of events.accesses.items c.as_slice.result.now x.threads c.as_slice.ensures told.accesses) told.numbered
    c.in_ok-order.field-0 c.in-Some.order c.in-Some.is c.in_ok-order.ensures c.as_slice-in-Some.result.now c.as_slice-in-Some.ensures.value
    c.in_ok-ids_of-in-Some.field-0.items c.of-in-Some.result c.in_ok-ids_of-in-Some.ensures c.of-in-Some.ensures)
    (λ none. absurd cc)

pub returns-clause-cyclic : goal.returns-clause-cyclic
returns-clause-cyclic g c =
    let x = c.args.x.now in
    let events = c.in_ok-events.events in
    let told = c.in_ok-events.ensures in
    let model = g.M.OrderModel in
    let cycle = found_cycle (λ v. v.items) model.order model.INTERNAL x events.accesses.items c.requires.shaped.indexed
    (all_of events.accesses.items c.as_slice.result.now x.threads c.as_slice.ensures told.accesses) c.in_ok-order.field-0 c.in-None.is c.in_ok-order.ensures in
    ((λ none. cycle), (λ round. refl))
