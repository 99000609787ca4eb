use Rattle.std.proofs.Common.{◌≤◌, arith, length, refl}
use Rattle.graph_reach.proofs.Searches.{begins_from, goes_on, is_over, is_whole, all_within, over_excludes_within}
use Rattle.graph_reach.proofs.reached.reach.Goals as goal

pub loop-place-init : goal.loop-place-init
loop-place-init g c = begins_from (g.G.Graph.successors_of c.args.graph.now) (g.G.Graph.weight_of c.args.graph.now) c.args.starts.now c.args.limit c.new-nodes.result c.add_all.new.self c.new-nodes.ensures c.in_ok-add_all.ensures

pub returns-then-left-weight-clause-over : goal.returns-then-left-weight-clause-over
returns-then-left-weight-clause-over g c =
    let over = is_over (g.G.Graph.successors_of c.args.graph.now) (g.G.Graph.weight_of c.args.graph.now) c.args.starts.now c.args.limit c.loop-place.nodes c.loop-place.place c.loop-place.left c.at-node.result c.weight-weight.result c.loop-place.invariant c.len.ensures.once c.at-node.ensures c.weight-weight.ensures c.if-left-weight.true in
    ((λ none. over), (λ is. refl))

pub loop-place-preserved : goal.loop-place-preserved
loop-place-preserved g c =
    goes_on (g.G.Graph.successors_of c.args.graph.now) (g.G.Graph.weight_of c.args.graph.now) c.args.starts.now c.args.limit c.loop-place.nodes c.loop-place.place c.loop-place.left c.at-node.result c.weight-weight.result c.expand.new.nodes c.loop-place.invariant c.at-node.ensures c.weight-weight.ensures c.if-left-weight.false c.in_ok-expand.ensures

pub returns-clause-whole : goal.returns-clause-whole
returns-clause-whole g c = is_whole (g.G.Graph.successors_of c.args.graph.now) (g.G.Graph.weight_of c.args.graph.now) c.args.starts.now c.args.limit c.loop-place.nodes c.loop-place.place c.loop-place.left c.loop-place.invariant c.len.ensures.once (omega arith)

pub returns-clause-within : goal.returns-clause-within
returns-clause-within g c = all_within (g.G.Graph.successors_of c.args.graph.now) (g.G.Graph.weight_of c.args.graph.now) c.args.starts.now c.args.limit c.loop-place.nodes c.loop-place.place c.loop-place.left c.loop-place.invariant (omega arith)

pub returns-clause-over : goal.returns-clause-over
returns-clause-over g c =
    let end : length c.loop-place.nodes ≤ c.loop-place.place = omega arith in
    let whole = is_whole (g.G.Graph.successors_of c.args.graph.now) (g.G.Graph.weight_of c.args.graph.now) c.args.starts.now c.args.limit c.loop-place.nodes c.loop-place.place c.loop-place.left c.loop-place.invariant c.len.ensures.once end in
    let within = all_within (g.G.Graph.successors_of c.args.graph.now) (g.G.Graph.weight_of c.args.graph.now) c.args.starts.now c.args.limit c.loop-place.nodes c.loop-place.place c.loop-place.left c.loop-place.invariant end in
    ((λ differ. absurd (cc)), (λ over. absurd (over_excludes_within (g.G.Graph.successors_of c.args.graph.now) c.args.starts.now (g.G.Graph.weight_of c.args.graph.now) c.args.limit c.loop-place.nodes whole within over)))
