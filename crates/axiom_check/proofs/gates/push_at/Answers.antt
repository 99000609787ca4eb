use Rattle.std.proofs.Common.{◌≡◌, ℕ, ap, ◌∙◌}
use Rattle.ev_graph.specs.declared.events.Access.{Access}
use Rattle.axiom_check.specs.declared.lanes.Slot.{Slot}
use Rattle.axiom_check.specs.Bytes.{key}
use Rattle.axiom_check.proofs.BytesLemmas.{gains_found, gains_slot}
use Rattle.axiom_check.proofs.gates.push_at.Goals as goal

pub returns : goal.returns
returns c =
    let found = c.in-Some.found in
    let made = c.key_of.ensures ∙ ap {B = ℕ} (λ (b : ℕ). key b c.args.tag c.args.place) c.from.ensures in
    gains_found c.args.events.now.accesses.items c.args.events.now.firsts.items c.requires.numbered c.args.id found.number found.access
    (λ n (b : Access) (s : Slot). s ≡ record { key = key b.id.thread c.args.tag c.args.place; event = n }) _ _ c.in-Some.ensures.some
    (gains_slot (key found.access.id.thread c.args.tag c.args.place) c.key_of.result found.number _ _ made c.in_ok-push.ensures.items)
