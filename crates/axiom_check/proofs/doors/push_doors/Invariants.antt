use Rattle.axiom_check.specs.Gains.{Gains, Below}
use Rattle.axiom_check.specs.Gates.{IsDoorSource, IsDoorTarget, IsDoorEdge}
use Rattle.axiom_check.proofs.doors.push_doors.Given as goal

abbrev pub invariant-loop-k : goal.invariant-loop-k
invariant-loop-k g l = Gains (Below g.M.OrderModel.doors (IsDoorSource l.events.accesses.items l.items) l.k) l.initial.lanes.sources.items l.lanes.sources.items
    × Gains (Below g.M.OrderModel.doors (IsDoorTarget l.events.accesses.items l.items) l.k) l.initial.lanes.targets.items l.lanes.targets.items
    × Gains (Below g.M.OrderModel.doors (IsDoorEdge l.events.accesses.items l.items) l.k) l.initial.lanes.direct.items l.lanes.direct.items
