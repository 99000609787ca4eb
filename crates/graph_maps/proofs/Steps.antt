-- The pairs of x86-TSO over all locations as steps: within a thread, or from one thread to another. Private events can be cut out.
use Rattle.std.proofs.Common.{◌≡◌, Bool, true, List, ◌⊎◌, inl, inr, subst, arith}
use Rattle.ev_graph.specs.declared.events.EventId.{EventId}
use Rattle.ev_graph.specs.declared.execution.Execution.{Execution}
use Rattle.ev_graph.specs.declared.execution.ReadFrom.{ReadFrom}
use Rattle.ev_graph.specs.Events.{Event, IsIn, Overlap}
use Rattle.ev_graph.specs.Pairs.{External, Rf, Co, Fr}
use Rattle.ev_graph.specs.Cycle.{Among, Acyclic}
use Rattle.order_models.specs.declared.edge.EdgeKind.TheVariants as edge
use Rattle.order_models.specs.Consistent.{InternalPair, SomeKind}
use Rattle.graph_maps.specs.Needs.{SameEvents, HasPrivate}
use Rattle.graph_maps.specs.Laws.{TsoPair}
use Rattle.graph_maps.proofs.Cut.{CanCut}
use Rattle.ev_graph.proofs.EventLemmas.{overlap_sym, external_sym, fr_overlap}
use Rattle.graph_maps.proofs.EventLemmas.{in_po, in_other, rf_overlap}
use Rattle.graph_maps.proofs.Within.{Within, within_from_local, join_within}

-- rf, fr or co
abbrev pub Communicates : Execution → Event → Event → Type 0
Communicates x a b = Rf x.rf a b ⊎ (Fr x.rf x.co a b ⊎ Co x.co a b)

-- what y keeps within a thread, or rf, fr or co of x from one thread to another
abbrev pub Step : Execution → Execution → Event → Event → Type 0
Step x y a b = Within y.threads a b ⊎ (External a b × Communicates x a b)

pub rf_same : (x y : Execution) → SameEvents x y → (a b : Event) → Rf y.rf a b → Rf x.rf a b
rf_same x y same a b pair = subst (λ (rf : List ReadFrom). Rf rf a b) same.rf pair

pub co_same : (x y : Execution) → SameEvents x y → (a b : Event) → Co y.co a b → Co x.co a b
co_same x y same a b pair = subst (λ (co : List EventId). Co co a b) same.co pair

pub fr_same : (x y : Execution) → SameEvents x y → (a b : Event) → Fr y.rf y.co a b → Fr x.rf x.co a b
fr_same x y same a b pair = subst (λ (rf : List ReadFrom). Fr rf x.co a b) same.rf (subst (λ (co : List EventId). Fr y.rf co a b) same.co pair)

-- the pairs of one location are the same
pub internal_same : (x y : Execution) → SameEvents x y → (a b : Event) → SomeKind (InternalPair y) a b → SomeKind (InternalPair x) a b
internal_same x y same a b (edge.Po, pair) = (edge.Po, pair)
internal_same x y same a b (edge.Rf, pair) = (edge.Rf, rf_same x y same a b pair)
internal_same x y same a b (edge.Co, pair) = (edge.Co, co_same x y same a b pair)
internal_same x y same a b (edge.Fr, pair) = (edge.Fr, fr_same x y same a b pair)
internal_same x y same a b (_, pair) = absurd pair

-- each x86 pair of y is a step
pub step_of : (x y : Execution) → SameEvents x y → Acyclic x.threads (SomeKind (InternalPair x)) → (a b : Event) → IsIn x.threads a → IsIn x.threads b
    → TsoPair y a b → Step x y a b
step_of x y same acyclic a b in_a in_b (edge.Co, pair) =
    let co = co_same x y same a b pair.2 in
    inl (record { po = in_po x acyclic a b in_a in_b pair.1 co.overlap (edge.Co, co); why = inl (inr co.second) })
step_of x y same acyclic a b in_a in_b (edge.Fr, pair) =
    let fr = fr_same x y same a b pair.2 in
    inl (record { po = in_po x acyclic a b in_a in_b pair.1 (fr_overlap x.rf x.co a b fr) (edge.Fr, fr); why = inl (inl fr.read) })
step_of x y same acyclic a b in_a in_b (edge.Rfe, pair) = inr (pair.0, inl (rf_same x y same a b pair.1))
step_of x y same acyclic a b in_a in_b (edge.Fre, pair) = inr (pair.0, inr (inl (fr_same x y same a b pair.1)))
step_of x y same acyclic a b in_a in_b (edge.Coe, pair) = inr (pair.0, inr (inr (co_same x y same a b pair.1)))
step_of x y same acyclic a b in_a in_b (kind, pair) = inl (within_from_local y.threads kind a b (in_other x y same a in_a) (in_other x y same b in_b) pair)

-- events that communicate overlap
pub communicating_overlap : (x : Execution) (private : EventId → Bool) → HasPrivate private x → (a b : Event) → IsIn x.threads a → IsIn x.threads b
    → Communicates x a b → Overlap a b
communicating_overlap x private needs a b in_a in_b (inl rf) = rf_overlap x needs.sources a b in_a in_b rf
communicating_overlap x private needs a b in_a in_b (inr (inl fr)) = fr_overlap x.rf x.co a b fr
communicating_overlap x private needs a b in_a in_b (inr (inr co)) = co.overlap

-- a step to a private event is within its thread
pub within_into : (x y : Execution) (private : EventId → Bool) → HasPrivate private x → (a p : Event) → IsIn x.threads a → IsIn x.threads p → private p.id ≡ true
    → Step x y a p → Within y.threads a p
within_into x y private needs a p in_a in_p hidden (inl within) = within
within_into x y private needs a p in_a in_p hidden (inr (apart, pair)) =
    absurd (needs.apart p a in_p in_a hidden (external_sym a p apart) (overlap_sym a p (communicating_overlap x private needs a p in_a in_p pair)))

-- a step from a private event is within its thread
pub within_out : (x y : Execution) (private : EventId → Bool) → HasPrivate private x → (p b : Event) → IsIn x.threads p → IsIn x.threads b → private p.id ≡ true
    → Step x y p b → Within y.threads p b
within_out x y private needs p b in_p in_b hidden (inl within) = within
within_out x y private needs p b in_p in_b hidden (inr (apart, pair)) =
    absurd (needs.apart p b in_p in_b hidden apart (communicating_overlap x private needs p b in_p in_b pair))

-- private events can be cut out of cycles of steps
pub can_cut : (x y : Execution) (private : EventId → Bool) → HasPrivate private x → CanCut (Among x.threads (Step x y)) (λ a. private a.id)
can_cut x y private needs = record {
  join = λ a p b hidden first second. record {
    first = first.first;
    second = second.second;
    pair = inl (join_within y.threads a p b (needs.unlocked p first.second hidden)
        (within_into x y private needs a p first.first first.second hidden first.pair)
        (within_out x y private needs p b second.first second.second hidden second.pair));
  };
  irreflexive = λ p hidden pair.
      let within = within_out x y private needs p p pair.first pair.second hidden pair.pair in
      let order = within.po.order in
      absurd (omega arith);
}
