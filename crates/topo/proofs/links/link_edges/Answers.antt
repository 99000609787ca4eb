use Rattle.std.proofs.Common.{◌+◌, ℕ, List, sym, subst, refl, get_or, slice_set}
use Rattle.std.proofs.lemmas.Option.{slice_get-get_or}
use Rattle.topo.specs.declared.edge.Edge.{Edge}
use Rattle.topo.specs.Links.{AreLinks}
use Rattle.topo.proofs.Linking.{link_more}
use Rattle.topo.proofs.Steps.{read_as}
use Rattle.topo.proofs.links.link_edges.Goals as goal

pub loop-place-preserved : goal.loop-place-preserved
loop-place-preserved c =
    let edges = c.args.edges.now in
    let k = c.loop-place.place in
    let last = c.loop-place.last.items in
    let nowhere : Edge = record { from = 0; to = 0 } in
    let e = get_or edges k nowhere in
    let here = slice_get-get_or edges k nowhere c.loop-place-test.true in
    let there = read_as last c.as_slice.result.now e.to c.at.result c.at.result c.as_slice.ensures.value c.at.ensures refl in
    subst (λ (before : List ℕ). AreLinks c.args.n edges (k + 1) (slice_set last e.to (k + 1)) before) (sym c.in_ok-push.ensures.items)
    (link_more c.args.n edges k last c.loop-place.before.items e c.at.result c.loop-place.invariant here there)
