use Rattle.std.proofs.Common.{◌≡◌, ℕ, List, Some, length, subst, sym, ap, arith}
use Rattle.std.specs.List.{slice_get}
use Rattle.std.proofs.lemmas.Grind.{common_steps}
use Rattle.ev_graph.specs.declared.events.EventId.{EventId}
use Rattle.ev_graph.specs.declared.execution.ThreadRun.{ThreadRun}
use Rattle.ev_graph.specs.declared.execution.ReadFrom.{ReadFrom}
use Rattle.axiom_check.specs.Bytes.{ArePlaces, AreSourcesKnown}
use Rattle.axiom_check.proofs.Judged.{co_write, sources_known, external_sources, external_targets, external_edges}
use Rattle.axiom_check.proofs.external.external.Goals as goal

pub push_writes-requires-clause-few : goal.push_writes-requires-clause-few
push_writes-requires-clause-few g c = λ i id here.
    let x = c.args.x.now in
    let moved = subst (λ (l : List EventId). slice_get l i ≡ Some id) c.as_slice-co.ensures here in
    let write = co_write x c.args.events.now.accesses.items c.requires.judgeable c.requires.all i id moved in
    let thread = write.thread in
    let few = c.requires.judgeable.threads in
    omega arith

pub returns-clause-sources : goal.returns-clause-sources
returns-clause-sources g c =
    let x = c.args.x.now in
    let all = c.args.events.now.accesses.items in
    let judged = c.requires.judgeable in
    let places = subst (λ (l : List EventId). ArePlaces all l (length l) c.in_ok-places.places.items) c.as_slice-co.ensures c.in_ok-places.ensures in
    let places_slice = subst (λ (p : List ℕ). ArePlaces all x.co (length x.co) p) (grind (arith, common_steps)) places in
    let count = ap {B = ℕ} (λ (l : List ThreadRun). length l) c.as_slice.ensures in
    external_sources x all _ g.M.OrderModel.doors _ _ _ _ _ _ _ _ _ c.new-2.ensures.items c.as_slice-co.ensures c.as_slice-3.ensures c.as_slice-5.ensures count (grind arith)
    c.in_ok-push_writes.ensures.sources
    (c.in_ok-push_reads.ensures x.co judged.co.once places_slice (subst (λ (l : List ReadFrom). AreSourcesKnown all x.co l) (sym c.as_slice-3.ensures) (sources_known x all judged c.requires.all)))
    c.in_ok-push_threads.ensures.sources

pub returns-clause-targets : goal.returns-clause-targets
returns-clause-targets g c =
    external_targets c.args.x.now c.args.events.now.accesses.items g.M.OrderModel.doors _ _ _ _ _ c.new-3.ensures.items c.as_slice-co.ensures c.as_slice-5.ensures
    c.in_ok-push_writes.ensures.targets c.in_ok-push_threads.ensures.targets

pub returns-clause-direct : goal.returns-clause-direct
returns-clause-direct g c =
    external_edges c.args.x.now c.args.events.now.accesses.items g.M.OrderModel.doors _ _ _ _ _ c.new.ensures.items c.as_slice-4.ensures c.as_slice-5.ensures
    c.in_ok-push_edges.ensures c.in_ok-push_threads.ensures.direct
