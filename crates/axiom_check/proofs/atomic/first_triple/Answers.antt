use Rattle.std.proofs.Common.{◌≡◌, length, refl, subst, below_more, arith}
use Rattle.std.proofs.lemmas.Option.{slice_get_read}
use Rattle.ev_graph.specs.declared.execution.ReadFrom.{ReadFrom}
use Rattle.axiom_check.specs.Atomic.{IsWhole}
use Rattle.axiom_check.proofs.LanesLemmas.{place_below}
use Rattle.axiom_check.proofs.atomic.first_triple.Goals as goal

pub loop-entry-preserved : goal.loop-entry-preserved
loop-entry-preserved c = λ co told few slots.
    let at = c.loop-entry.entry-index in
    let here = slice_get_read c.args.rf.now (length c.args.rf.now) at c.entry-item.result refl (omega arith) c.entry-item.is in
    let whole : IsWhole c.args.events.now.accesses.items co c.entry-item.result = c.in-None.ensures co (told at c.entry-item.result here) few slots in
    below_more _ _ (c.loop-entry.invariant co told few slots) (λ other there.
    let same : c.entry-item.result ≡ other = cc in
    subst (λ (e : ReadFrom). IsWhole c.args.events.now.accesses.items co e) same whole)

pub returns-in-Some : goal.returns-in-Some
returns-in-Some c = λ co told few slots.
    let at = c.loop-entry.entry-index in
    let here = slice_get_read c.args.rf.now (length c.args.rf.now) at c.entry-item.result refl (omega arith) c.entry-item.is in
    (at, c.entry-item.result, here, c.in-Some.ensures co (told at c.entry-item.result here) few slots, (λ d other less there. c.loop-entry.invariant co told few slots d less other there))

pub returns : goal.returns
returns c = λ co told few slots e entry here.
    let within = place_below c.args.rf.now e entry here in
    c.loop-entry.invariant co told few slots e (omega arith) entry here
