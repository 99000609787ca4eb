use Rattle.std.proofs.Common.{◌≡◌, subst, sym}
use Rattle.order_models.specs.declared.doors.Door.{Door}
use Rattle.order_models.specs.declared.doors.Opening.TheVariants as opening
use Rattle.axiom_check.specs.Gates.{AreGate, IsWide, IsGateSource, IsGateTarget, IsPairEdge}
use Rattle.axiom_check.proofs.GatesLemmas.{wide, not_wide, door_gains, door_gains_none}
use Rattle.axiom_check.proofs.doors.push_door.Goals as goal

pub returns-in-Pair-clause-sources : goal.returns-in-Pair-clause-sources
returns-in-Pair-clause-sources c = door_gains_none (IsWide c.args.door.opening) (not_wide c.args.door.opening c.in-Pair.is) _ _

pub returns-in-Pair-clause-targets : goal.returns-in-Pair-clause-targets
returns-in-Pair-clause-targets c = door_gains_none (IsWide c.args.door.opening) (not_wide c.args.door.opening c.in-Pair.is) _ _

pub returns-in-Pair-clause-direct : goal.returns-in-Pair-clause-direct
returns-in-Pair-clause-direct c =
    let all = c.args.events.now.accesses.items in
    let items = c.args.items.now in
    let gate = c.in_ok-gate.gate in
    let known = c.in_ok-gate.ensures in
    let are_gate = subst (λ (d : Door). AreGate items d gate.from.items gate.to.items gate.opening.items) (sym known.door) known.gate in
    door_gains (c.args.door.opening ≡ opening.Pair) c.in-Pair.is items c.args.own.now gate.door c.args.door (λ d. IsPairEdge all items d) _ _ known.door c.requires.own
    (c.in_ok-push_pairs.ensures items c.requires.own are_gate)

pub returns : goal.returns
returns c =
    let all = c.args.events.now.accesses.items in
    let items = c.args.items.now in
    let own = c.args.own.now in
    let door = c.args.door in
    let gate = c.in_ok-gate.gate in
    let known = c.in_ok-gate.ensures in
    let are_gate = subst (λ (d : Door). AreGate items d gate.from.items gate.to.items gate.opening.items) (sym known.door) known.gate in
    let is_wide = wide door.opening c.in_default.not-Pair in
    let gate_wide = subst (λ (d : Door). IsWide d.opening) (sym known.door) is_wide in
    record {
      sources = door_gains (IsWide door.opening) is_wide items own gate.door door (λ d. IsGateSource all items d c.args.k) _ _ known.door c.requires.own
          (c.in_ok-push_gate.ensures.sources items c.args.k known.tag c.requires.own are_gate);
      targets = door_gains (IsWide door.opening) is_wide items own gate.door door (λ d. IsGateTarget all items d c.args.k) _ _ known.door c.requires.own
          (c.in_ok-push_gate.ensures.targets items c.args.k known.tag c.requires.own gate_wide are_gate);
      direct = door_gains_none (door.opening ≡ opening.Pair) c.in_default.not-Pair _ _;
    }
