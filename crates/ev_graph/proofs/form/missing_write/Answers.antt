use Rattle.std.proofs.Common.{Some, None, sym, subst, refl, List}
use Rattle.std.proofs.lemmas.Option.{slice_get_read}
use Rattle.ev_graph.specs.declared.events.EventId.{EventId}
use Rattle.ev_graph.specs.declared.events.Item.{Item}
use Rattle.ev_graph.specs.declared.execution.ThreadRun.{ThreadRun}
use Rattle.ev_graph.specs.Places.{StandsIn}
use Rattle.ev_graph.specs.Faults.{IsFirstPresent}
use Rattle.ev_graph.specs.Giving.{thread_writes}
use Rattle.ev_graph.proofs.FirstLemmas.{step_at, first_joined, joined_end}
use Rattle.ev_graph.proofs.FormLemmas.{write_ids-threads}
use Rattle.ev_graph.proofs.form.missing_write.Goals as goal

pub loop-thread-preserved : goal.loop-thread-preserved
loop-thread-preserved c =
    let Items : List Item → Type 0 = λ items. IsFirstPresent (StandsIn c.args.co.now) (thread_writes items) None in
    step_at (λ (run : ThreadRun). IsFirstPresent (StandsIn c.args.co.now) (thread_writes run.items) None) c.args.threads.now c.loop-thread.thread-index c.thread-item.result
    (slice_get_read c.args.threads.now _ c.loop-thread.thread-index c.thread-item.result refl c.loop-thread-test.true c.thread-item.is)
    c.loop-thread.invariant (subst Items c.as_slice.ensures c.in_default.ensures)

pub returns-in-Some : goal.returns-in-Some
returns-in-Some c =
    let Items : List Item → Type 0 = λ items. IsFirstPresent (StandsIn c.args.co.now) (thread_writes items) (Some c.in-Some.id) in
    let Ids : List EventId → Type 0 = λ ids. IsFirstPresent (StandsIn c.args.co.now) ids (Some c.in-Some.id) in
    subst Ids (sym (write_ids-threads c.args.threads.now))
    (first_joined (StandsIn c.args.co.now) (λ (run : ThreadRun). thread_writes run.items) c.args.threads.now c.loop-thread.thread-index c.thread-item.result c.in-Some.id
    c.loop-thread.invariant
    (slice_get_read c.args.threads.now _ c.loop-thread.thread-index c.thread-item.result refl c.loop-thread-test.true c.thread-item.is)
    (subst Items c.as_slice.ensures c.in-Some.ensures))

pub returns : goal.returns
returns c =
    let Ids : List EventId → Type 0 = λ ids. IsFirstPresent (StandsIn c.args.co.now) ids None in
    subst Ids (sym (write_ids-threads c.args.threads.now))
    (joined_end (StandsIn c.args.co.now) (λ (run : ThreadRun). thread_writes run.items) c.args.threads.now c.loop-thread.thread-index
    c.loop-thread-test.false c.loop-thread.invariant)
