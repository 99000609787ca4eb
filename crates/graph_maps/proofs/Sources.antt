-- The sources of a well-formed execution, said of events.
use Rattle.std.proofs.Common.{◌≡◌, ◌+◌, ℕ, length, sym, ap, subst, arith}
use Rattle.std.proofs.lemmas.Option.{slice_get_within}
use Rattle.ev_graph.specs.declared.events.EventId.{EventId}
use Rattle.ev_graph.specs.declared.execution.Source.TheVariants.{From}
use Rattle.ev_graph.specs.Events.{Event, event, IsAccessOf, Covers}
use Rattle.ev_graph.proofs.EventLemmas.{access_of, access_in}
use Rattle.graph_maps.specs.Laws.{WellFormedHasSources}

pub well_formed_has_sources_lem : WellFormedHasSources
well_formed_has_sources_lem cells x formed r k w in_r from =
    let read = access_of x.threads r in_r in
    let Of : EventId → Type 0 = λ id. IsAccessOf x.threads id read.0 in
    let entry_read = subst Of (sym from.read) read.1 in
    let gives = formed.sources from.entry read.0 k (From w) from.listed entry_read from.byte in
    let write = access_in x.threads formed.shaped.indexed w gives.0 gives.1 in
    let size : length from.entry.bytes ≡ read.0.size = formed.shaped.entries.sizes from.entry read.0 from.listed entry_read in
    let within = slice_get_within from.entry.bytes k (From w) from.byte in
    let sized : read.0.size ≡ r.size = ap {B = ℕ} (λ (e : Event). e.size) read.2 in
    let At : Event → Type 0 = λ e. Covers (event gives.0) (e.address + k) in
    (omega arith, (event gives.0, write.0, write.1, gives.2, subst At read.2 gives.3))
