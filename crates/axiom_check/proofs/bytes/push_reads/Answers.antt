use Rattle.std.proofs.Common.{◌≡◌, ℕ, length, refl, subst, arith}
use Rattle.std.proofs.lemmas.Option.{slice_get_read}
use Rattle.axiom_check.specs.Gains.{Gains, Below}
use Rattle.axiom_check.specs.Bytes.{IsEntrySource}
use Rattle.axiom_check.proofs.GainsLemmas.{gains_zero, gains_more}
use Rattle.axiom_check.proofs.bytes.push_reads.Goals as goal

pub loop-entry-init : goal.loop-entry-init
loop-entry-init c = λ co once places known. gains_zero _ _ _

pub loop-entry-preserved : goal.loop-entry-preserved
loop-entry-preserved c = λ co once places known.
    let at = c.loop-entry.entry-index in
    let here = slice_get_read c.args.rf.now (length c.args.rf.now) at c.entry-item.result refl (omega arith) c.entry-item.is in
    gains_more c.args.rf.now (IsEntrySource c.args.events.now.accesses.items co c.args.writers.within c.args.writers.threads) at _ _ _ _ here
    (c.loop-entry.invariant co once places known)
    (c.in_ok-push_read.ensures co at once places (λ k source byte. known at c.entry-item.result k source here byte))

pub returns : goal.returns
returns c = λ co once places known.
    let end : c.loop-entry.entry-index ≡ length c.args.rf.now = omega arith in
    subst (λ (n : ℕ). Gains (Below c.args.rf.now (IsEntrySource c.args.events.now.accesses.items co c.args.writers.within c.args.writers.threads) n)
    c.args.sources.now.items c.loop-entry.sources.items) end (c.loop-entry.invariant co once places known)
