use Rattle.std.proofs.Common.{◌<◌, ◌≤◌, List, length, subst, sym, arith}
use Rattle.exec_text.specs.Events.{IsEvent, IsSmallOrder}
use Rattle.ev_graph.specs.declared.events.EventId.{EventId}
use Rattle.exec_text.proofs.KeptLemmas.{KeptBefore, kept_more, kept_wide, says_nothing}
use Rattle.exec_text.proofs.EventLemmas.{order_fronts, order_grows, order_full, order_beyond}
use Rattle.exec_text.proofs.events.events.Goals as goal

pub loop-part-preserved-then-len-lt-MOST_EVENTS : goal.loop-part-preserved-then-len-lt-MOST_EVENTS
loop-part-preserved-then-len-lt-MOST_EVENTS c =
    let parts = c.args.fields in
    let found = c.loop-part.found.items in
    let id = c.in-Ok.id in
    let room : length found < 4096 = omega (arith, c.loop-part.found.ok.0) in
    let Here : List EventId → Type 0 = λ ids. KeptBefore IsEvent IsSmallOrder parts c.next.new.self c.loop-part.wide ids in
    subst Here (sym c.in_ok-push-in-Ok.ensures.items)
    (kept_more IsEvent IsSmallOrder order_fronts parts c.loop-part.part-iterator c.next.new.self c.in-Some.part.now id c.loop-part.wide found
    c.in-Some.ensures.steps c.in-Ok.ensures.0 (order_grows found id room c.in-Ok.ensures.1) c.loop-part.invariant)

pub loop-part-preserved-in-Ok-2 : goal.loop-part-preserved-in-Ok-2
loop-part-preserved-in-Ok-2 c =
    let parts = c.args.fields in
    let found = c.loop-part.found.items in
    let id = c.in-Ok.id in
    let full : 4096 ≤ length found = omega (arith, c.loop-part.found.ok.0) in
    kept_wide IsEvent IsSmallOrder order_fronts parts c.loop-part.part-iterator c.next.new.self c.in-Some.part.now id c.loop-part.wide found found
    c.in-Some.ensures.steps c.in-Ok.ensures.0 (order_full found id full) c.loop-part.invariant

pub loop-part-preserved : goal.loop-part-preserved
loop-part-preserved c =
    let parts = c.args.fields in
    let found = c.loop-part.found.items in
    let beyond = rw c.in-Err-Number.field-0-is at c.in-Err-Number.ensures in
    kept_wide IsEvent IsSmallOrder order_fronts parts c.loop-part.part-iterator c.next.new.self c.in-Some.part.now beyond.0 c.loop-part.wide found found
    c.in-Some.ensures.steps beyond.1 (order_beyond found beyond.0 beyond.2) c.loop-part.invariant

pub returns-in-Err-Shape : goal.returns-in-Err-Shape
returns-in-Err-Shape c =
    let parts = c.args.fields in
    let none = rw c.in-Err-Shape.field-0-is at c.in-Err-Shape.ensures in
    says_nothing IsEvent IsSmallOrder parts c.loop-part.part-iterator c.next.new.self c.in-Some.part.now c.loop-part.wide c.loop-part.found.items c.in-Some.ensures.steps c.loop-part.invariant none
