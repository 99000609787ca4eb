use Rattle.std.proofs.Common.{◌≡◌, ◌+◌, ◌-◌, ℕ, subst, arith}
use Rattle.axiom_check.specs.Gains.{Gains, Below}
use Rattle.axiom_check.specs.Gates.{IsPairEdge}
use Rattle.axiom_check.proofs.GainsLemmas.{gains_zero, gains_more}
use Rattle.axiom_check.proofs.LanesLemmas.{element}
use Rattle.axiom_check.proofs.GatesLemmas.{pairs_all}
use Rattle.axiom_check.proofs.gates.push_pairs.Goals as goal

pub loop-m-init : goal.loop-m-init
loop-m-init c = λ items own gate. gains_zero _ _ _

pub loop-m-preserved : goal.loop-m-preserved
loop-m-preserved c = λ items own gate.
    let m = c.loop-m.m in
    let at = element c.args.own.now (m - 1) (omega arith) in
    let F = IsPairEdge c.args.events.now.accesses.items items c.args.gate.now.door in
    let turn = gains_more c.args.own.now F (m - 1) at.0 _ _ _ at.1 (c.loop-m.invariant items own gate) (c.in_ok-push_pair.ensures items at.0 own at.1 gate) in
    let next : (m - 1) + 1 ≡ (m + 1) - 1 = omega arith in
    subst (λ (n : ℕ). Gains (Below c.args.own.now F n) c.args.edges.now.items c.push_pair.new.edges.items) next turn

pub returns : goal.returns
returns c = λ items own gate.
    pairs_all c.args.events.now.accesses.items items c.args.own.now c.args.gate.now.door (c.loop-m.m - 1) c.args.edges.now.items c.loop-m.edges.items own (omega arith)
    (c.loop-m.invariant items own gate)
