use Rattle.std.proofs.Common.{◌≡◌, ◌<◌, List, ℕ, subst, Some, IfSome, IfNone, slice_get}
use Rattle.ev_graph.specs.Places.{StandsIn}
use Rattle.graph_reach.proofs.Members.{place_answers, first_answers, absent_answers}
use Rattle.graph_reach.proofs.nodes.Nodes.place_of.Goals as goal

pub returns-clause-some : goal.returns-clause-some
returns-clause-some c = subst (λ (nodes : List ℕ). IfSome c.get_index_of.result (λ place. slice_get nodes place ≡ Some c.args.node)) c.self.view_is
    (place_answers c.self.inside.set.keys c.args.node c.get_index_of.result c.get_index_of.ensures.index)

pub returns-clause-first : goal.returns-clause-first
returns-clause-first c = subst (λ (nodes : List ℕ). IfSome c.get_index_of.result (λ place. (i : ℕ) → i < place → slice_get nodes i ≡ Some c.args.node → ⊥)) c.self.view_is
    (first_answers c.self.inside.set.keys c.args.node c.get_index_of.result c.get_index_of.ensures.index)

pub returns-clause-none : goal.returns-clause-none
returns-clause-none c = subst (λ (nodes : List ℕ). IfNone c.get_index_of.result (StandsIn nodes c.args.node → ⊥)) c.self.view_is
    (absent_answers c.self.inside.set.keys c.args.node c.get_index_of.result c.get_index_of.ensures.found)
