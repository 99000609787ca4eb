-- Executions with the same events, what reads overlap, and pairs of one location within a thread.
use Rattle.std.proofs.Common.{◌≡◌, ◌<◌, ◌+◌, [], ◌∷◌, ◌⊎◌, inl, inr, Option, sym, ap, subst, arith}
use Rattle.std.specs.List.{slice_get}
use Rattle.ev_graph.specs.declared.execution.Execution.{Execution}
use Rattle.ev_graph.specs.Events.{Event, IsIn, Overlap}
use Rattle.ev_graph.specs.Pairs.{Po, PoLoc, Rf}
use Rattle.ev_graph.specs.Cycle.{Acyclic}
use Rattle.ev_graph.proofs.EventLemmas.{same_event, overlap_sym}
use Rattle.order_models.specs.declared.edge.EdgeKind.TheVariants as edge
use Rattle.order_models.specs.Consistent.{InternalPair, SomeKind, IsWithin}
use Rattle.graph_maps.specs.Needs.{SameEvents, HasWriteSources}

-- the events of one execution are those of another with the same events
pub in_same : (x y : Execution) → SameEvents x y → (a : Event) → IsIn y.threads a → IsIn x.threads a
in_same x y same a in_y = let e = ap {B = Option Event} (λ es. slice_get es a.id.index) (same.threads a.id.thread) in cc

pub in_other : (x y : Execution) → SameEvents x y → (a : Event) → IsIn x.threads a → IsIn y.threads a
in_other x y same a in_x = let e = ap {B = Option Event} (λ es. slice_get es a.id.index) (same.threads a.id.thread) in cc

-- a read overlaps what it reads from
pub rf_overlap : (x : Execution) → HasWriteSources x → (w r : Event) → IsIn x.threads w → IsIn x.threads r → Rf x.rf w r → Overlap w r
rf_overlap x sources w r in_w in_r from =
    let source = sources r from.k w.id in_r from.source in
    let found = source.1 in
    let same : found.0 ≡ w = same_event x.threads found.0 w found.1 in_w found.2 in
    let covers = subst (λ (e : Event). Overlap e r) same (r.address + from.k, found.4, (omega arith, let within = source.0 in omega arith)) in
    covers

-- where no event of a location leads back to itself, its pairs within a thread lie in program order
pub in_po : (x : Execution) → Acyclic x.threads (SomeKind (InternalPair x)) → (a b : Event) → IsIn x.threads a → IsIn x.threads b
    → IsWithin a b → Overlap a b → SomeKind (InternalPair x) a b → Po a b
in_po x acyclic a b in_a in_b same overlap pair =
    let cases : (a.id.index < b.id.index) ⊎ ((a.id.index ≡ b.id.index) ⊎ (b.id.index < a.id.index)) = grind arith in
    elim cases [
      | inl less ↦ record { thread = same; order = less }
      | inr (inl equal) ↦ absurd (
          let ids : a.id ≡ b.id = cc in
          let one : a ≡ b = same_event x.threads a b in_a in_b ids in
          acyclic a [] (record { first = in_a; second = in_a; pair = subst (λ (e : Event). SomeKind (InternalPair x) a e) (sym one) pair }))
      | inr (inr more) ↦ absurd (
          let back : PoLoc b a = record { po = record { thread = sym same; order = more }; overlap = overlap_sym a b overlap } in
          acyclic a (b ∷ []) (record { first = in_a; second = in_b; pair = pair }, record { first = in_b; second = in_a; pair = (edge.Po, back) }))
    ]
