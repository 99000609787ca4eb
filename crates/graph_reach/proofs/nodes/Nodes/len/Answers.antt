use Rattle.std.proofs.Common.{List, ℕ, subst}
use Rattle.ev_graph.specs.Places.{IsDistinct}
use Rattle.graph_reach.proofs.Members.{distinct_places}
use Rattle.graph_reach.proofs.nodes.Nodes.len.Goals as goal

pub returns-clause-once : goal.returns-clause-once
returns-clause-once c = let once = distinct_places c.self.inside.set.keys c.len.ensures.unique in subst (λ (nodes : List ℕ). IsDistinct nodes) c.self.view_is once
