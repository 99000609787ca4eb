use Rattle.std.proofs.Common.{refl, sym, ◌∙◌}
use Rattle.std.proofs.lemmas.Option.{slice_get_read, slice_get_past}
use Rattle.ev_graph.proofs.Threads.{items_of_some, items_of_none}
use Rattle.ev_graph.proofs.finder.items_at.Goals as goal

pub returns-in-Some : goal.returns-in-Some
returns-in-Some c =
    let found = c.in-Some.ensures.lookup in
    let here = slice_get_read c.args.threads.now _ c.args.thread c.in-Some.run'.now refl found.3.0 found.1 in
    c.as_slice.ensures ∙ sym (items_of_some c.args.threads.now c.args.thread _ here)

pub returns-in-None : goal.returns-in-None
returns-in-None c =
    let past = c.in-None.ensures.lookup in
    sym (items_of_none c.args.threads.now c.args.thread (slice_get_past c.args.threads.now c.args.thread past.3))
