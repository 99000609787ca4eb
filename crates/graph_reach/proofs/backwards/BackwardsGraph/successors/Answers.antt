use Rattle.std.proofs.Common.{◌≡◌, ◌<◌, ◌++◌, ℕ, List, length, arith, ap, sym, refl, ◌∙◌}
use Rattle.std.proofs.lemmas.Option.{slice_get_read, slice_get_within}
use Rattle.graph_reach.specs.Backwards.{lists_of, row_beside}
use Rattle.graph_reach.proofs.TurnedEdges.{beside_at, beside_none, row_of_lists, length-lists_of, append_empty}
use Rattle.graph_reach.proofs.backwards.BackwardsGraph.successors.Goals as goal

pub returns-in_ok-extend_from_slice : goal.returns-in_ok-extend_from_slice
returns-in_ok-extend_from_slice c =
    let nodes = c.self.inside.nodes.now in
    let vecs = c.self.inside.from.items in
    let place = c.in-Some.place in
    let within = slice_get_within nodes place c.args.node c.in-Some.ensures.some in
    let same : length nodes ≡ length vecs = c.self.invariant in
    let long : length (lists_of vecs) ≡ length nodes = length-lists_of vecs ∙ sym same in
    let inside : place < length vecs = omega arith in
    let read = slice_get_read vecs _ place c.index.result.now refl inside c.index.ensures in
    let row = row_of_lists vecs place c.index.result.now read in
    let beside = beside_at nodes (lists_of vecs) place c.args.node long c.in-Some.ensures.some c.in-Some.ensures.first in
    let seen = ap (λ (pairs : List (ℕ × List ℕ)). row_beside pairs c.args.node) c.self.view_is in
    c.in_ok-extend_from_slice.ensures.items ∙ ap (λ (xs : List ℕ). c.args.into.now.items ++ xs) (c.as_slice.ensures.value ∙ sym row ∙ sym beside ∙ seen)

pub returns-in_default : goal.returns-in_default
returns-in_default c =
    let none = beside_none c.self.inside.nodes.now (lists_of c.self.inside.from.items) c.args.node c.in_default.ensures.none in
    let seen = ap (λ (pairs : List (ℕ × List ℕ)). row_beside pairs c.args.node) c.self.view_is in
    append_empty c.args.into.now.items (row_beside c.args.self.now c.args.node) (sym seen ∙ none)
