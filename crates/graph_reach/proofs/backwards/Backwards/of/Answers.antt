use Rattle.std.proofs.Common.{◌≡◌, ◌≤◌, ◌++◌, ℕ, List, Some, length, slice_get, get_or, subst, ap, ◌∙◌, arith}
use Rattle.std.proofs.lemmas.Option.{slice_get-get_or}
use Rattle.graph_reach.specs.Backwards.{lists_of}
use Rattle.graph_reach.specs.Turning.{AreEmpty, AddsInto}
use Rattle.graph_reach.proofs.TurnedEdges.{turned_none, turned_more, turned_all}
use Rattle.graph_reach.proofs.backwards.Backwards.of.Goals as goal

pub loop-node-init : goal.loop-node-init
loop-node-init g c =
    turned_none (g.G.Graph.successors_of c.args.graph.now) c.args.nodes.now (lists_of c.in_ok-from.from.items)
    (subst (λ (count : ℕ). AreEmpty count (lists_of c.in_ok-from.from.items)) c.len.ensures.len c.in_ok-from.ensures)

pub loop-node-preserved : goal.loop-node-preserved
loop-node-preserved g c =
    let successors = g.G.Graph.successors_of c.args.graph.now in
    let nodes = c.args.nodes.now in
    let listed = c.as_slice-node-items.result.now in
    let i = c.loop-node.node-index in
    let node = get_or listed i 0 in
    let old = lists_of c.loop-node.from.items in
    let now = lists_of c.put_into.new.lists.items in
    let here = subst (λ (xs : List ℕ). slice_get xs i ≡ Some node) c.as_slice-node-items.ensures.nodes (slice_get-get_or listed i 0 c.loop-node-test.true) in
    let buffered : c.as_slice.result.now ≡ successors node = c.as_slice.ensures.value ∙ c.in_ok-successors.ensures ∙ ap (λ (xs : List ℕ). xs ++ successors node) c.clear.ensures.items in
    let adds = subst (λ (xs : List ℕ). AddsInto nodes node xs old now) buffered c.in_ok-put_into.ensures in
    turned_more successors nodes i node old now c.loop-node.invariant here adds

pub returns : goal.returns
returns g c =
    let same : length c.as_slice-node-items.result.now ≡ length c.args.nodes.now = ap length c.as_slice-node-items.ensures.nodes in
    let end : length c.args.nodes.now ≤ c.loop-node.node-index = omega arith in
    turned_all (g.G.Graph.successors_of c.args.graph.now) c.args.nodes.now c.loop-node.node-index (lists_of c.loop-node.from.items) c.loop-node.invariant end c.len.ensures.once
