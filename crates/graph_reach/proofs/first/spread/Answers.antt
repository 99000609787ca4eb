use Rattle.std.proofs.Common.{◌≤◌, length, arith}
use Rattle.graph_reach.proofs.Firsts.{spread_none, spread_more, spread_all}
use Rattle.graph_reach.proofs.first.spread.Goals as goal

pub loop-place-init : goal.loop-place-init
loop-place-init g c = record { from = omega arith; spreads = spread_none (g.G.Graph.successors_of c.args.graph.now) c.args.nodes.now c.args.from }

pub loop-place-preserved : goal.loop-place-preserved
loop-place-preserved g c =
    let before = c.loop-place.invariant in
    record {
      from = omega arith;
      spreads = spread_more (g.G.Graph.successors_of c.args.graph.now) c.args.nodes.now c.args.from c.loop-place.place c.loop-place.nodes c.at.result c.expand.new.nodes before.spreads c.at.ensures c.in_ok-expand.ensures;
    }

pub returns : goal.returns
returns g c =
    let end : length c.loop-place.nodes ≤ c.loop-place.place = omega arith in
    spread_all (g.G.Graph.successors_of c.args.graph.now) c.args.nodes.now c.args.from c.loop-place.place c.loop-place.nodes c.loop-place.invariant.spreads end
