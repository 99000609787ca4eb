use Rattle.std.proofs.Common.{ℕ, List, arith, sym, subst}
use Rattle.topo.specs.Order.{IsOrder, IsCycle}
use Rattle.topo.proofs.Linking.{begins_as, walkable}
use Rattle.topo.proofs.Ends.{found_cycle, has_cycle, cycle_excludes, order_excludes_cycle, finished}
use Rattle.topo.proofs.order.order_or_cycle.Goals as goal

pub loop-v-init : goal.loop-v-init
loop-v-init c =
    let links = c.in_ok-last.ensures in
    record {
      walkable = walkable c.args.n c.args.edges.now c.in_ok-last.field-0.last.items c.in_ok-last.field-0.before.items c.requires.ends links;
      holds = begins_as c.args.n c.args.edges.now c.in_ok-last.field-0.last.items c.in_ok-last.field-0.before.items c.in_ok-walk.walk links c.in_ok-walk.ensures;
      idle = c.in_ok-walk.ensures.stack;
      visited = λ u less. absurd (omega arith);
    }

pub returns-in-Some-clause-cycle : goal.returns-in-Some-clause-cycle
returns-in-Some-clause-cycle c =
    let cycle = found_cycle _ c.args.edges.now c.in_ok-from.field-0 _ c.visit.new.self c.in-Some.from c.in_ok-cycle.cycle.items c.in_ok-from.ensures c.in-Some.is c.in_ok-cycle.ensures in
    subst (λ (xs : List ℕ). IsCycle c.args.edges.now xs) (sym c.of.ensures) cycle

pub returns-in-Some-clause-acyclic : goal.returns-in-Some-clause-acyclic
returns-in-Some-clause-acyclic c =
    let cycle = found_cycle _ c.args.edges.now c.in_ok-from.field-0 _ c.visit.new.self c.in-Some.from c.in_ok-cycle.cycle.items c.in_ok-from.ensures c.in-Some.is c.in_ok-cycle.ensures in
    ((λ absurdity. absurd absurdity), cycle_excludes c.args.edges.now (has_cycle c.args.edges.now c.in_ok-cycle.cycle.items cycle))

pub returns-in-Some-clause-cyclic : goal.returns-in-Some-clause-cyclic
returns-in-Some-clause-cyclic c =
    let cycle = found_cycle _ c.args.edges.now c.in_ok-from.field-0 _ c.visit.new.self c.in-Some.from c.in_ok-cycle.cycle.items c.in_ok-from.ensures c.in-Some.is c.in_ok-cycle.ensures in
    ((λ is. has_cycle c.args.edges.now c.in_ok-cycle.cycle.items cycle), (λ is. tt))

pub returns-clause-order : goal.returns-clause-order
returns-clause-order c =
    let at_end = c.loop-v.invariant in
    let order = finished c.args.n c.args.edges.now _ c.loop-v.walk c.loop-v.v c.into_done.result.items at_end.walkable at_end.holds at_end.idle at_end.visited c.loop-v-test.false c.into_done.ensures in
    subst (λ (xs : List ℕ). IsOrder c.args.n c.args.edges.now xs) (sym c.of-2.ensures) order

pub returns-clause-acyclic : goal.returns-clause-acyclic
returns-clause-acyclic c =
    let at_end = c.loop-v.invariant in
    let order = finished c.args.n c.args.edges.now _ c.loop-v.walk c.loop-v.v c.into_done.result.items at_end.walkable at_end.holds at_end.idle at_end.visited c.loop-v-test.false c.into_done.ensures in
    ((λ is. order_excludes_cycle c.args.n c.args.edges.now c.into_done.result.items order), (λ acyclic. tt))

pub returns-clause-cyclic : goal.returns-clause-cyclic
returns-clause-cyclic c =
    let at_end = c.loop-v.invariant in
    let order = finished c.args.n c.args.edges.now _ c.loop-v.walk c.loop-v.v c.into_done.result.items at_end.walkable at_end.holds at_end.idle at_end.visited c.loop-v-test.false c.into_done.ensures in
    ((λ absurdity. absurd absurdity), (λ cycle. cycle_excludes c.args.edges.now cycle (order_excludes_cycle c.args.n c.args.edges.now c.into_done.result.items order)))
