use Rattle.std.proofs.Common.{length, refl, arith}
use Rattle.std.proofs.lemmas.Option.{slice_get_read}
use Rattle.axiom_check.specs.Bytes.{IsEntryEdge}
use Rattle.axiom_check.proofs.GainsLemmas.{gains_zero, gains_more}
use Rattle.axiom_check.proofs.bytes.push_edges.Goals as goal

pub loop-entry-init : goal.loop-entry-init
loop-entry-init c = gains_zero _ _ _

pub loop-entry-preserved : goal.loop-entry-preserved
loop-entry-preserved c =
    let at = c.loop-entry.entry-index in
    let here = slice_get_read c.args.rf.now (length c.args.rf.now) at c.entry-item.result refl (omega arith) c.entry-item.is in
    gains_more c.args.rf.now (IsEntryEdge c.args.events.now.accesses.items c.args.within) at _ _ _ _ here c.loop-entry.invariant (c.in_ok-push_entry_edges.ensures at)
