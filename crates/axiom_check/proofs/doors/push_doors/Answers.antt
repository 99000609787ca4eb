use Rattle.std.proofs.Common.{◌≡◌, ℕ, length, subst, arith}
use Rattle.axiom_check.specs.Gains.{Gains, Below}
use Rattle.axiom_check.specs.Gates.{IsDoorSource, IsDoorTarget, IsDoorEdge}
use Rattle.axiom_check.proofs.GainsLemmas.{gains_zero, gains_more}
use Rattle.axiom_check.proofs.doors.push_doors.Goals as goal

pub loop-k-init : goal.loop-k-init
loop-k-init g c = (gains_zero _ _ _, gains_zero _ _ _, gains_zero _ _ _)

pub loop-k-preserved : goal.loop-k-preserved
loop-k-preserved g c =
    let all = c.args.events.now.accesses.items in
    let items = c.args.items.now in
    let k = c.loop-k.k in
    let doors = g.M.OrderModel.doors in (
      gains_more doors (IsDoorSource all items) k c.door.result _ _ _ c.door.ensures c.loop-k.invariant.0 c.in_ok-push_door.ensures.sources,
      gains_more doors (IsDoorTarget all items) k c.door.result _ _ _ c.door.ensures c.loop-k.invariant.1 c.in_ok-push_door.ensures.targets,
      gains_more doors (IsDoorEdge all items) k c.door.result _ _ _ c.door.ensures c.loop-k.invariant.2 c.in_ok-push_door.ensures.direct,
    )

pub returns-clause-sources : goal.returns-clause-sources
returns-clause-sources g c =
    let end : c.loop-k.k ≡ length g.M.OrderModel.doors = omega (arith, g.met.M.OrderModel.door_count, c.DOORS-k-end.ensures) in
    subst (λ (n : ℕ). Gains (Below g.M.OrderModel.doors (IsDoorSource c.args.events.now.accesses.items c.args.items.now) n) c.args.lanes.now.sources.items c.loop-k.lanes.sources.items)
    end c.loop-k.invariant.0

pub returns-clause-targets : goal.returns-clause-targets
returns-clause-targets g c =
    let end : c.loop-k.k ≡ length g.M.OrderModel.doors = omega (arith, g.met.M.OrderModel.door_count, c.DOORS-k-end.ensures) in
    subst (λ (n : ℕ). Gains (Below g.M.OrderModel.doors (IsDoorTarget c.args.events.now.accesses.items c.args.items.now) n) c.args.lanes.now.targets.items c.loop-k.lanes.targets.items)
    end c.loop-k.invariant.1

pub returns-clause-direct : goal.returns-clause-direct
returns-clause-direct g c =
    let end : c.loop-k.k ≡ length g.M.OrderModel.doors = omega (arith, g.met.M.OrderModel.door_count, c.DOORS-k-end.ensures) in
    subst (λ (n : ℕ). Gains (Below g.M.OrderModel.doors (IsDoorEdge c.args.events.now.accesses.items c.args.items.now) n) c.args.lanes.now.direct.items c.loop-k.lanes.direct.items)
    end c.loop-k.invariant.2
