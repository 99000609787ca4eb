use Rattle.std.proofs.Common.{◌≡◌, ℕ, length, subst, arith}
use Rattle.axiom_check.specs.Gains.{Gains, Below}
use Rattle.axiom_check.specs.Bytes.{IsCoSource, IsCoTarget}
use Rattle.axiom_check.proofs.GainsLemmas.{gains_zero, gains_more}
use Rattle.axiom_check.proofs.bytes.push_writes.Goals as goal

pub loop-place-init : goal.loop-place-init
loop-place-init c = (gains_zero _ _ _, gains_zero _ _ _)

pub loop-place-preserved : goal.loop-place-preserved
loop-place-preserved c = (
  gains_more c.args.co.now (IsCoSource c.args.events.now.accesses.items c.args.writers.within c.args.writers.threads) c.loop-place.place _ _ _ _ c.at.ensures
      c.loop-place.invariant.0 c.in_ok-push_write.ensures.sources,
  gains_more c.args.co.now (IsCoTarget c.args.events.now.accesses.items) c.loop-place.place _ _ _ _ c.at.ensures
      c.loop-place.invariant.1 c.in_ok-push_write.ensures.targets,
)

pub returns-clause-sources : goal.returns-clause-sources
returns-clause-sources c =
    let end : c.loop-place.place ≡ length c.args.co.now = grind arith in
    subst (λ (n : ℕ). Gains (Below c.args.co.now (IsCoSource c.args.events.now.accesses.items c.args.writers.within c.args.writers.threads) n)
    c.args.sources.now.items c.loop-place.sources.items) end c.loop-place.invariant.0

pub returns-clause-targets : goal.returns-clause-targets
returns-clause-targets c =
    let end : c.loop-place.place ≡ length c.args.co.now = grind arith in
    subst (λ (n : ℕ). Gains (Below c.args.co.now (IsCoTarget c.args.events.now.accesses.items) n) c.args.targets.now.items c.loop-place.targets.items) end c.loop-place.invariant.1
