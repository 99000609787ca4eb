use Rattle.std.proofs.Common.{◌≡◌, ℕ, length, subst, arith}
use Rattle.axiom_check.specs.Gains.{Gains, Below}
use Rattle.axiom_check.specs.Bytes.{IsReadSource}
use Rattle.axiom_check.proofs.GainsLemmas.{gains_zero, gains_more}
use Rattle.axiom_check.proofs.bytes.push_read_bytes.Goals as goal

pub loop-k-init : goal.loop-k-init
loop-k-init c = λ co once places known. gains_zero _ _ _

pub loop-k-preserved : goal.loop-k-preserved
loop-k-preserved c = λ co once places known.
    gains_more c.args.bytes.now (IsReadSource co c.args.writers.within c.args.writers.threads c.args.found.now.number c.args.found.now.access) c.loop-k.k _ _ _ _ c.at.ensures
    (c.loop-k.invariant co once places known) (c.in_ok-push_read_source.ensures co once places (known c.loop-k.k c.at.result c.at.ensures))

pub returns : goal.returns
returns c = λ co once places known.
    let end : c.loop-k.k ≡ length c.args.bytes.now = omega arith in
    subst (λ (n : ℕ). Gains (Below c.args.bytes.now (IsReadSource co c.args.writers.within c.args.writers.threads c.args.found.now.number c.args.found.now.access) n)
    c.args.sources.now.items c.loop-k.sources.items) end (c.loop-k.invariant co once places known)
