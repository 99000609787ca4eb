use Rattle.axiom_check.specs.Gains.{Gains, Below}
use Rattle.axiom_check.specs.Gates.{IsThreadSource, IsThreadTarget, IsThreadEdge}
use Rattle.axiom_check.proofs.doors.push_threads.Given as goal

abbrev pub invariant-loop-thread : goal.invariant-loop-thread
invariant-loop-thread g l = Gains (Below l.threads (IsThreadSource l.events.accesses.items g.M.OrderModel.doors) l.thread-index) l.initial.lanes.sources.items l.lanes.sources.items
    × Gains (Below l.threads (IsThreadTarget l.events.accesses.items g.M.OrderModel.doors) l.thread-index) l.initial.lanes.targets.items l.lanes.targets.items
    × Gains (Below l.threads (IsThreadEdge l.events.accesses.items g.M.OrderModel.doors) l.thread-index) l.initial.lanes.direct.items l.lanes.direct.items
