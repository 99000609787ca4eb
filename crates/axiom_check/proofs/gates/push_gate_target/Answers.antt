use Rattle.std.proofs.Common.{List, ℕ, subst, sym}
use Rattle.axiom_check.specs.Gates.{AreLasts, kind_of_side, kind_of_opening}
use Rattle.axiom_check.proofs.GatesLemmas.{gate_target}
use Rattle.axiom_check.proofs.gates.push_gate_target.Goals as goal

pub returns-in_ok-push_at : goal.returns-in_ok-push_at
returns-in_ok-push_at c = λ items k tag here wide are_gate.
    let gate = c.args.gate.now in
    let lasts = subst (λ (l : List ℕ). AreLasts (kind_of_side gate.door.to) items l) (sym c.as_slice.ensures.value) are_gate.to_lasts in
    let opening = subst (λ (l : List ℕ). AreLasts (kind_of_opening gate.door.opening) items l) (sym c.as_slice-then-is_of_side.ensures.value) are_gate.opening_lasts in
    gate_target c.args.events.now.accesses.items items gate.door.opening gate.door.to c.args.m c.args.access.now.id gate.tag k c.place_of-place.result _ _ tag
    ((c.is_of_side.ensures items here lasts).0 c.if-is_of_side.true) (c.place_of-place.ensures items opening wide) c.in_ok-push_at.ensures
