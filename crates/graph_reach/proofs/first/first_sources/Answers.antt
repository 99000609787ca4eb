use Rattle.std.proofs.Common.{◌≡◌, ◌-◌, ◌++◌, ℕ, length, subst, take, replicate, get_or}
use Rattle.std.proofs.lemmas.Option.{slice_get-get_or}
use Rattle.graph_reach.specs.Searching.{Spreads}
use Rattle.graph_reach.proofs.Firsts.{first_step, looks_up_all}
use Rattle.graph_reach.proofs.first.first_sources.Goals as goal

pub loop-source-preserved : goal.loop-source-preserved
loop-source-preserved g c =
    let now = c.spread.new.nodes in
    let spread = subst (λ (from : ℕ). Spreads (g.G.Graph.successors_of c.args.graph.now) c.add.new.self from (length now) now) c.len-from.ensures.len c.in_ok-spread.ensures in
    let resized = subst (λ (n : ℕ). c.resize.new.self.items ≡ take n c.loop-source.first.items ++ replicate (n - c.loop-source.first.len) (get_or c.args.sources.now c.loop-source.source-index 0)) c.len.ensures.len c.in_ok-resize.ensures.items in
    record {
      first = first_step (g.G.Graph.successors_of c.args.graph.now) c.args.sources.now c.loop-source.source-index c.loop-source.nodes c.loop-source.first.items _ _
          c.add.new.self c.spread.new.nodes c.resize.new.self.items c.loop-source.invariant.first (slice_get-get_or c.args.sources.now c.loop-source.source-index 0 c.loop-source-test.true)
          c.in_ok-add.ensures spread c.len.ensures.once c.loop-source.first.ok.0 resized;
      once = c.len.ensures.once;
    }

pub returns : goal.returns
returns g c = looks_up_all (g.G.Graph.successors_of c.args.graph.now) c.args.sources.now c.loop-source.source-index c.loop-source.nodes c.loop-source.first.items c.loop-source.invariant.first c.loop-source.invariant.once
    c.loop-source-test.false
