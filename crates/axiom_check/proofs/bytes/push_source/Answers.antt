use Rattle.std.proofs.Common.{◌≡◌, ◌+◌, ℕ, subst, arith}
use Rattle.axiom_check.specs.Gains.{Gains, BelowNumber}
use Rattle.axiom_check.specs.Bytes.{IsSourceAt}
use Rattle.axiom_check.proofs.GainsLemmas.{gains_more_number}
use Rattle.axiom_check.proofs.bytes.push_source.Goals as goal

pub loop-k-preserved : goal.loop-k-preserved
loop-k-preserved c =
    let found = c.args.found.now in
    let byte : c.from.result + c.from-in-loop-k.result ≡ found.access.address + c.loop-k.k = omega arith in
    let turn = subst (λ (b : ℕ). Gains (IsSourceAt c.args.writers.within c.args.writers.threads found.access.id.thread found.number b c.args.place)
    c.loop-k.sources.items c.push_source_at.new.sources.items) byte c.in_ok-push_source_at.ensures in
    gains_more_number (λ k. IsSourceAt c.args.writers.within c.args.writers.threads found.access.id.thread found.number (found.access.address + k) c.args.place) c.loop-k.k
    c.args.sources.now.items c.loop-k.sources.items _ c.loop-k.invariant turn

pub returns : goal.returns
returns c =
    let found = c.args.found.now in
    let end : c.loop-k.k ≡ found.access.size = omega arith in
    subst (λ (n : ℕ). Gains (BelowNumber (λ k. IsSourceAt c.args.writers.within c.args.writers.threads found.access.id.thread found.number (found.access.address + k) c.args.place) n)
    c.args.sources.now.items c.loop-k.sources.items) end c.loop-k.invariant
