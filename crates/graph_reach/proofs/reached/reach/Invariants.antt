use Rattle.std.proofs.Common.{◌-◌, ◌^◌}
use Rattle.graph_reach.specs.Searching.{IsSearching}
use Rattle.graph_reach.proofs.reached.reach.Given as goal

abbrev pub invariant-loop-place : goal.invariant-loop-place
invariant-loop-place g l = IsSearching (g.G.Graph.successors_of l.graph) (g.G.Graph.weight_of l.graph) l.starts l.limit l.nodes l.place l.left

abbrev pub decreases-loop-place : goal.decreases-loop-place
decreases-loop-place g l = 2 ^ 64 - l.place
