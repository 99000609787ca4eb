use Rattle.axiom_check.specs.Gains.{Gains, Below}
use Rattle.axiom_check.specs.Lanes.{IsEntry}
use Rattle.axiom_check.proofs.lanes.push_entries.Given as goal

abbrev pub invariant-loop-place : goal.invariant-loop-place
invariant-loop-place l = Gains (Below l.sources (IsEntry l.events l.targets) l.place) l.initial.edges.items l.edges.items
