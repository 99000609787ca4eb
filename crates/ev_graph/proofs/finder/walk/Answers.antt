use Rattle.std.proofs.Common.{arith}
use Rattle.ev_graph.proofs.Numbers.{more_plus, same_before, found_at, none_past}
use Rattle.ev_graph.proofs.finder.walk.Goals as goal
use Rattle.ev_graph.proofs.finder.walk.Goals.{in-Some-2, in-None}

pub returns-in-Some-clause-found : goal.returns-in-Some-clause-found
returns-in-Some-clause-found c =
    found_at c.args.items.now _ _ _ c.in-Some.access c.in-Some.ensures.some c.loop-place.invariant.counted c.if-number-index.true

pub loop-place-preserved : goal.loop-place-preserved
loop-place-preserved c = elim c.match-access_in.branch [
  | in-Some-2 w ↦
      let one = more_plus c.args.items.now c.loop-place.place w.in-Some-2.field-0 w.in-Some-2.ensures.some in
      let before = c.loop-place.invariant in
      record { counted = omega arith; ahead = grind arith }
  | in-None w ↦
      let same = same_before c.args.items.now c.loop-place.place w.in-None.ensures.none in
      let before = c.loop-place.invariant in
      record { counted = omega arith; ahead = omega arith }
]

pub returns-clause-found : goal.returns-clause-found
returns-clause-found c = none_past c.args.items.now _ _ _ c.loop-place-test.false c.loop-place.invariant.counted c.loop-place.invariant.ahead
