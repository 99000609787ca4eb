use Rattle.std.proofs.Common.{◌≡◌, List, [], Some, length, sym, subst, arith}
use Rattle.std.specs.List.{slice_get}
use Rattle.ev_graph.specs.declared.events.EventId.{EventId}
use Rattle.ev_graph.specs.Places.{IsDistinct}
use Rattle.axiom_check.specs.Bytes.{IsCoTarget}
use Rattle.axiom_check.specs.Gains.{Gains, Below}
use Rattle.axiom_check.proofs.AtomicTriples.{few_all, told_at, judged_triple}
use Rattle.axiom_check.proofs.Judged.{co_write}
use Rattle.axiom_check.proofs.atomic.atomic.Goals as goal

pub of-requires-clause-distinct : goal.of-requires-clause-distinct
of-requires-clause-distinct c = subst (λ (l : List EventId). IsDistinct l) (sym c.as_slice-co.ensures) c.requires.judgeable.co.once

pub of-requires-clause-few : goal.of-requires-clause-few
of-requires-clause-few c = λ i id here.
    let x = c.args.x.now in
    let moved = subst (λ (l : List EventId). slice_get l i ≡ Some id) c.as_slice-co.ensures here in
    let write = co_write x c.args.events.now.accesses.items c.requires.judgeable c.requires.all i id moved in
    let thread = write.thread in
    let few = c.requires.judgeable.threads in
    omega arith

pub returns : goal.returns
returns c =
    let x = c.args.x.now in
    let events = c.args.events.now in
    let all = events.accesses.items in
    let judged = c.requires.judgeable in
    let made = c.in_ok-writes.ensures in
    let slots = subst (λ (l : List EventId). Gains (Below l (IsCoTarget all) (length l)) [] c.in_ok-writes.writes.slots.items) c.as_slice-co.ensures made.slots in
    judged_triple x all events.firsts.items judged c.requires.all c.requires.numbered c.as_slice-rf.result.now c.as_slice-rf.ensures c.first_triple.result
    (c.first_triple.ensures x.co (told_at x all judged c.requires.all c.as_slice-co.result.now c.as_slice-co.ensures c.in_ok-writes.writes.places.items made.places c.as_slice-rf.result.now c.as_slice-rf.ensures)
    (few_all x all judged c.requires.all) slots)
