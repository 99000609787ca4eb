use Rattle.std.proofs.Common.{List, ℕ, subst}
use Rattle.graph_reach.specs.Nodes.{AddsOne}
use Rattle.graph_reach.proofs.Adding.{adds_one}
use Rattle.graph_reach.proofs.nodes.Nodes.add.Goals as goal

pub returns : goal.returns
returns c =
    let inserted = adds_one c.self.inside.set.keys c.args.node c.insert.new.self.keys c.in_ok-insert.ensures.keys in
    subst (λ (old : List ℕ). AddsOne old c.args.node c.insert.new.self.keys) c.self.view_is inserted
