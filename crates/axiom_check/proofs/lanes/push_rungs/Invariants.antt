use Rattle.axiom_check.specs.Gains.{Gains, Below}
use Rattle.axiom_check.specs.Lanes.{IsRung}
use Rattle.axiom_check.proofs.lanes.push_rungs.Given as goal

abbrev pub invariant-loop-place : goal.invariant-loop-place
invariant-loop-place l = Gains (Below l.targets (IsRung l.events l.targets) l.place) l.initial.edges.items l.edges.items
