use Rattle.std.proofs.Common.{take}
use Rattle.ev_graph.specs.Places.{IsDistinct}
use Rattle.graph_reach.specs.Searching.{AreFirst}
use Rattle.graph_reach.proofs.first.first_sources.Given as goal

abbrev pub invariant-loop-source : goal.invariant-loop-source
invariant-loop-source g l = record {
  first : AreFirst (g.G.Graph.successors_of l.graph) (take l.source-index l.sources) l.nodes l.first.items;
  once : IsDistinct l.nodes;
}
