use Rattle.std.proofs.Common.{◌≡◌, ℕ, subst, arith}
use Rattle.axiom_check.specs.Gains.{Gains, BelowNumber}
use Rattle.axiom_check.specs.Bytes.{IsSourceTo}
use Rattle.axiom_check.proofs.GainsLemmas.{gains_more_number}
use Rattle.axiom_check.proofs.bytes.push_source_at.Goals as goal

pub loop-thread-preserved : goal.loop-thread-preserved
loop-thread-preserved c =
    gains_more_number (IsSourceTo c.args.writers.within c.args.found.now.access.id.thread c.args.found.now.number c.args.byte c.args.place) c.loop-thread.thread
    c.args.sources.now.items c.loop-thread.sources.items _ c.loop-thread.invariant c.in_ok-push_source_to.ensures

pub returns : goal.returns
returns c =
    let end : c.loop-thread.thread ≡ c.args.writers.threads = omega arith in
    subst (λ (n : ℕ). Gains (BelowNumber (IsSourceTo c.args.writers.within c.args.found.now.access.id.thread c.args.found.now.number c.args.byte c.args.place) n)
    c.args.sources.now.items c.loop-thread.sources.items) end c.loop-thread.invariant
