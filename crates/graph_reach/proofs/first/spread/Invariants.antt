use Rattle.std.proofs.Common.{◌-◌, ◌^◌, ◌≤◌}
use Rattle.graph_reach.specs.Searching.{Spreads}
use Rattle.graph_reach.proofs.first.spread.Given as goal

abbrev pub invariant-loop-place : goal.invariant-loop-place
invariant-loop-place g l = record { from : l.fn.from ≤ l.place; spreads : Spreads (g.G.Graph.successors_of l.graph) l.fn.nodes l.fn.from l.place l.nodes }

abbrev pub decreases-loop-place : goal.decreases-loop-place
decreases-loop-place g l = 2 ^ 64 - l.place
