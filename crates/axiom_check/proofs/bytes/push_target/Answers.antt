use Rattle.std.proofs.Common.{◌≡◌, ◌+◌, ℕ, subst, ap, ◌∙◌, arith}
use Rattle.axiom_check.specs.declared.lanes.Slot.{Slot}
use Rattle.axiom_check.specs.Gains.{Gains, BelowNumber}
use Rattle.axiom_check.specs.Bytes.{key}
use Rattle.axiom_check.proofs.BytesLemmas.{gains_slot}
use Rattle.axiom_check.proofs.GainsLemmas.{gains_more_number}
use Rattle.axiom_check.proofs.bytes.push_target.Goals as goal

pub loop-k-preserved : goal.loop-k-preserved
loop-k-preserved c =
    let found = c.args.found.now in
    let byte : c.from.result + c.from-in-loop-k.result ≡ found.access.address + c.loop-k.k = omega arith in
    let made = c.key_of.ensures ∙ ap {B = ℕ} (λ (b : ℕ). key b found.access.id.thread c.args.place) byte in
    gains_more_number (λ k (s : Slot). s ≡ record { key = key (found.access.address + k) found.access.id.thread c.args.place; event = found.number }) c.loop-k.k
    c.args.targets.now.items c.loop-k.targets.items _ c.loop-k.invariant
    (gains_slot (key (found.access.address + c.loop-k.k) found.access.id.thread c.args.place) c.key_of.result found.number c.loop-k.targets.items _ made c.in_ok-push.ensures.items)

pub returns : goal.returns
returns c =
    let found = c.args.found.now in
    let end : c.loop-k.k ≡ found.access.size = omega arith in
    subst (λ (n : ℕ). Gains (BelowNumber (λ k (s : Slot). s ≡ record { key = key (found.access.address + k) found.access.id.thread c.args.place; event = found.number }) n)
    c.args.targets.now.items c.loop-k.targets.items) end c.loop-k.invariant
