use Rattle.std.proofs.Common.{List, ℕ, subst, IsTrue, ◌↔◌}
use Rattle.ev_graph.specs.Places.{StandsIn}
use Rattle.graph_reach.proofs.Members.{member_answers}
use Rattle.graph_reach.proofs.nodes.Nodes.contains.Goals as goal

pub returns : goal.returns
returns c = subst (λ (nodes : List ℕ). IsTrue c.contains.result ↔ StandsIn nodes c.args.node) c.self.view_is (member_answers c.self.inside.set.keys c.args.node c.contains.result c.contains.ensures)
