use Rattle.std.proofs.Common.{◌≡◌, ◌<◌, ℕ, List, length, arith, ap, sym, refl, ◌∙◌}
use Rattle.std.proofs.lemmas.Option.{slice_get_read, slice_get_within}
use Rattle.graph_reach.specs.Sources.{source_of}
use Rattle.graph_reach.proofs.Firsts.{no_source, source_at}
use Rattle.graph_reach.proofs.first.Sources.of.Goals as goal

pub returns-in_err-place : goal.returns-in_err-place
returns-in_err-place c =
    c.from_residual.ensures ∙ sym (no_source c.self.inside.nodes c.self.inside.first.items c.args.node c.in_err-place.ensures.none)
    ∙ ap (λ (pairs : List (ℕ × ℕ)). source_of pairs c.args.node) c.self.view_is

pub returns : goal.returns
returns c =
    let nodes = c.self.inside.nodes in
    let first = c.self.inside.first.items in
    let place = c.in_ok-place.place in
    let within = slice_get_within nodes place c.args.node c.in_ok-place.ensures.some in
    let long : length nodes ≡ length first = c.self.invariant in
    let inside : place < length first = omega arith in
    let beside = slice_get_read first (length first) place c.index.result.now refl inside c.index.ensures in
    sym (source_at nodes first place c.args.node c.index.result.now c.in_ok-place.ensures.some beside c.in_ok-place.ensures.first)
    ∙ ap (λ (pairs : List (ℕ × ℕ)). source_of pairs c.args.node) c.self.view_is
