use Rattle.std.proofs.Common.{List, length, subst}
use Rattle.ev_graph.specs.declared.events.Item.{Item}
use Rattle.axiom_check.specs.Gains.{Gains, Below}
use Rattle.axiom_check.specs.Gates.{IsDoorSource, IsDoorTarget, IsDoorEdge}
use Rattle.axiom_check.proofs.doors.push_thread.Goals as goal

pub returns : goal.returns
returns g c =
    let all = c.args.events.now.accesses.items in
    let doors = g.M.OrderModel.doors in
    let old = c.args.lanes.now in
    let new = c.push_doors.new.lanes in
    let made = c.in_ok-push_doors.ensures in
    record {
      sources = λ t. subst (λ (l : List Item). Gains (Below doors (IsDoorSource all l) (length doors)) old.sources.items new.sources.items) c.as_slice-2.ensures made.sources;
      targets = λ t. subst (λ (l : List Item). Gains (Below doors (IsDoorTarget all l) (length doors)) old.targets.items new.targets.items) c.as_slice-2.ensures made.targets;
      direct = λ t. subst (λ (l : List Item). Gains (Below doors (IsDoorEdge all l) (length doors)) old.direct.items new.direct.items) c.as_slice-2.ensures made.direct;
    }
