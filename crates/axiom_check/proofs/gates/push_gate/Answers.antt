use Rattle.std.proofs.Common.{◌≡◌, ℕ, List, Some, length, subst, sym, arith}
use Rattle.std.specs.List.{slice_get}
use Rattle.ev_graph.specs.declared.events.Access.{Access}
use Rattle.axiom_check.specs.Gains.{Gains, Below}
use Rattle.axiom_check.specs.Gates.{IsGateSource, IsGateTarget}
use Rattle.axiom_check.proofs.GainsLemmas.{gains_zero, gains_more}
use Rattle.axiom_check.proofs.gates.push_gate.Goals as goal

pub loop-m-init : goal.loop-m-init
loop-m-init c = ((λ items k tag own gate. gains_zero _ _ _), (λ items k tag own wide gate. gains_zero _ _ _))

pub loop-m-preserved : goal.loop-m-preserved
loop-m-preserved c = (
  (λ items k tag own gate.
      let here = subst (λ (l : List Access). slice_get l c.loop-m.m ≡ Some c.at-access.result) (sym own) c.at-access.ensures in
      gains_more c.args.own.now (IsGateSource c.args.events.now.accesses.items items c.args.gate.now.door k) c.loop-m.m _ _ _ _ c.at-access.ensures
      (c.loop-m.invariant.0 items k tag own gate) (c.in_ok-push_gate_source.ensures items k tag here gate)),
  (λ items k tag own wide gate.
      let here = subst (λ (l : List Access). slice_get l c.loop-m.m ≡ Some c.at-access.result) (sym own) c.at-access.ensures in
      gains_more c.args.own.now (IsGateTarget c.args.events.now.accesses.items items c.args.gate.now.door k) c.loop-m.m _ _ _ _ c.at-access.ensures
      (c.loop-m.invariant.1 items k tag own wide gate) (c.in_ok-push_gate_target.ensures items k tag here wide gate)),
)

pub returns-clause-sources : goal.returns-clause-sources
returns-clause-sources c = λ items k tag own gate.
    let end : c.loop-m.m ≡ length c.args.own.now = omega arith in
    subst (λ (n : ℕ). Gains (Below c.args.own.now (IsGateSource c.args.events.now.accesses.items items c.args.gate.now.door k) n) c.args.sources.now.items c.loop-m.sources.items)
    end (c.loop-m.invariant.0 items k tag own gate)

pub returns-clause-targets : goal.returns-clause-targets
returns-clause-targets c = λ items k tag own wide gate.
    let end : c.loop-m.m ≡ length c.args.own.now = omega arith in
    subst (λ (n : ℕ). Gains (Below c.args.own.now (IsGateTarget c.args.events.now.accesses.items items c.args.gate.now.door k) n) c.args.targets.now.items c.loop-m.targets.items)
    end (c.loop-m.invariant.1 items k tag own wide gate)
