use Rattle.std.proofs.Common.{List, ℕ, subst, sym, ◌+◌}
use Rattle.axiom_check.specs.Gates.{AreLasts, kind_of_side}
use Rattle.axiom_check.proofs.GatesLemmas.{gate_source}
use Rattle.axiom_check.proofs.gates.push_gate_source.Goals as goal

pub returns-in_ok-push_at : goal.returns-in_ok-push_at
returns-in_ok-push_at c = λ items k tag here are_gate.
    let gate = c.args.gate.now in
    let lasts = subst (λ (l : List ℕ). AreLasts (kind_of_side gate.door.from) items l) (sym c.as_slice.ensures.value) are_gate.from_lasts in
    gate_source c.args.events.now.accesses.items items gate.door.from c.args.m c.args.access.now.id gate.tag k (c.args.m + 2) _ _ tag
    ((c.is_of_side.ensures items here lasts).0 c.if-is_of_side.true) c.in_ok-push_at.ensures
