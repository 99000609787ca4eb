use Rattle.std.proofs.Common.{Some, None, sym, subst, List}
use Rattle.std.proofs.lemmas.Option.{slice_get-get_or}
use Rattle.ev_graph.specs.declared.events.EventId.{EventId}
use Rattle.ev_graph.specs.declared.events.Item.{Item}
use Rattle.ev_graph.specs.Places.{StandsIn}
use Rattle.ev_graph.specs.Faults.{IsFirstPresent}
use Rattle.ev_graph.specs.Giving.{item_writes}
use Rattle.ev_graph.proofs.FirstLemmas.{step_at, first_joined, joined_end}
use Rattle.ev_graph.proofs.FormLemmas.{thread_writes-items}
use Rattle.ev_graph.proofs.form.missing_in.Goals as goal

pub loop-one-preserved : goal.loop-one-preserved
loop-one-preserved c =
    step_at (λ (one : Item). IsFirstPresent (StandsIn c.args.co.now) (item_writes one) None) c.args.items.now c.loop-one.one-index _
    (slice_get-get_or c.args.items.now c.loop-one.one-index _ c.loop-one-test.true) c.loop-one.invariant c.in_default.ensures

pub returns-in-Some : goal.returns-in-Some
returns-in-Some c =
    let Ids : List EventId → Type 0 = λ ids. IsFirstPresent (StandsIn c.args.co.now) ids (Some c.in-Some.id) in
    subst Ids (sym (thread_writes-items c.args.items.now))
    (first_joined (StandsIn c.args.co.now) item_writes c.args.items.now c.loop-one.one-index _ c.in-Some.id c.loop-one.invariant
    (slice_get-get_or c.args.items.now c.loop-one.one-index _ c.loop-one-test.true) c.in-Some.ensures)

pub returns : goal.returns
returns c =
    let Ids : List EventId → Type 0 = λ ids. IsFirstPresent (StandsIn c.args.co.now) ids None in
    subst Ids (sym (thread_writes-items c.args.items.now))
    (joined_end (StandsIn c.args.co.now) item_writes c.args.items.now c.loop-one.one-index c.loop-one-test.false c.loop-one.invariant)
