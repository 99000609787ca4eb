-- From an order with the mapping-in fences to x86-TSO: a cycle of x86 pairs without private events is a cycle of the order.
use Rattle.std.proofs.Common.{◌≡◌, ◌+◌, ℕ, Bool, true, false, List, ◌⊎◌, inl, inr, subst, refl, arith}
use Rattle.ev_graph.specs.declared.events.AccessKind.TheVariants as access
use Rattle.ev_graph.specs.declared.events.AccessKind.{AccessKind}
use Rattle.ev_graph.specs.declared.events.EventId.{EventId}
use Rattle.ev_graph.specs.declared.execution.EventPair.{EventPair}
use Rattle.ev_graph.specs.declared.execution.Execution.{Execution}
use Rattle.ev_graph.specs.Events.{Event, items_of, IsIn, IsRead, IsWrite, IsLocked, LockedPairAt}
use Rattle.ev_graph.specs.Pairs.{Po, External, Rf, Co, Fr, Rmw}
use Rattle.ev_graph.specs.Cycle.{Chain, Among, Acyclic}
use Rattle.ev_graph.specs.WellFormed.{HasLockedPairs}
use Rattle.order_models.specs.declared.edge.EdgeKind.TheVariants as edge
use Rattle.order_models.specs.Orders.{Order, Tso, Limm, Arm}
use Rattle.order_models.specs.Consistent.{Consistent, Atomic, InternalPair, ExternalPair, SomeKind}
use Rattle.graph_maps.specs.Needs.{SameEvents, Fences, Fenced, MfencesFrom, IsMappedIn, HasMappingFences, HasPrivate, limm_fences, arm_fences}
use Rattle.graph_maps.specs.Laws.{TsoPair, LimmIsTso, ArmIsTso}
use Rattle.graph_maps.proofs.Cut.{chain_map, cut_cycle, Shown}
use Rattle.ev_graph.proofs.EventLemmas.{at_number, from_number}
use Rattle.graph_maps.proofs.EventLemmas.{in_same}
use Rattle.graph_maps.proofs.Within.{Within}
use Rattle.graph_maps.proofs.Steps.{Step, co_same, fr_same, internal_same, step_of, can_cut}

-- the order keeps locked pairs, and what its three kinds of fences are for
pub record Keeps (order : Order) (by : Fences) : Type 0 where
  pub locked_pair : (x : Execution) (a b : Event) → Po a b → LockedPairAt (items_of x.threads a.id.thread) a.id.index b.id.index → SomeKind (ExternalPair order false x) a b
  pub read : (x : Execution) (a b : Event) → IsIn x.threads a → Po a b → IsRead a → Fenced by.read x.threads a b → SomeKind (ExternalPair order false x) a b
  pub writes : (x : Execution) (a b : Event) → IsIn x.threads a → IsIn x.threads b → Po a b → IsWrite a → IsWrite b → Fenced by.writes x.threads a b
      → SomeKind (ExternalPair order false x) a b
  pub full : (x : Execution) (a b : Event) → Po a b → Fenced by.full x.threads a b → SomeKind (ExternalPair order false x) a b
  pub external_rf : (x : Execution) (a b : Event) → External a b → Rf x.rf a b → SomeKind (ExternalPair order false x) a b
  pub external_fr : (x : Execution) (a b : Event) → External a b → Fr x.rf x.co a b → SomeKind (ExternalPair order false x) a b
  pub external_co : (x : Execution) (a b : Event) → External a b → Co x.co a b → SomeKind (ExternalPair order false x) a b

pub limm_keeps : Keeps Limm limm_fences
limm_keeps = record {
  locked_pair = λ x a b po pair. (edge.Rmw, record { po = po; holds = pair });
  read = λ x a b in_a po read fenced. (edge.Frm, record { po = po; holds = (at_number IsRead x.threads a.id.thread a refl in_a read, fenced) });
  writes = λ x a b in_a in_b po first second fenced. (
    edge.Fww,
    record {
      po = po;
      holds =
          (at_number IsWrite x.threads a.id.thread a refl in_a first, at_number IsWrite x.threads a.id.thread b po.thread in_b second, fenced);
    },
  );
  full = λ x a b po fenced. (edge.Fsc, record { po = po; holds = fenced });
  external_rf = λ x a b apart pair. (edge.Rfe, (apart, pair));
  external_fr = λ x a b apart pair. (edge.Fre, (apart, pair));
  external_co = λ x a b apart pair. (edge.Coe, (apart, pair));
}

pub arm_keeps : Keeps Arm arm_fences
arm_keeps = record {
  locked_pair = λ x a b po pair. (edge.Rmw, record { po = po; holds = pair });
  read = λ x a b in_a po read fenced. (edge.Ld, record { po = po; holds = (at_number IsRead x.threads a.id.thread a refl in_a read, fenced) });
  writes = λ x a b in_a in_b po first second fenced. (
    edge.St,
    record {
      po = po;
      holds =
          (at_number IsWrite x.threads a.id.thread a refl in_a first, at_number IsWrite x.threads a.id.thread b po.thread in_b second, fenced);
    },
  );
  full = λ x a b po fenced. (edge.Dmb, record { po = po; holds = fenced });
  external_rf = λ x a b apart pair. (edge.Rfe, (apart, pair));
  external_fr = λ x a b apart pair. (edge.Fre, (apart, pair));
  external_co = λ x a b apart pair. (edge.Coe, (apart, pair));
}

-- what makes two events a locked pair
abbrev pub AreHalves : AccessKind → AccessKind → Bool → Bool → ℕ → ℕ → Type 0
AreHalves first second locked also_locked m n = (n ≡ m + 1) × (first ≡ access.Read) × (locked ≡ true) × (second ≡ access.Write) × (also_locked ≡ true)

halves_cases : (first second : AccessKind) (locked also_locked : Bool) (m n : ℕ)
    → AreHalves first second locked also_locked m n ⊎ (AreHalves first second locked also_locked m n → ⊥)
halves_cases access.Read access.Write true true m n =
    let cases : (n ≡ m + 1) ⊎ (n ≡ m + 1 → ⊥) = grind arith in
    elim cases [ inl next ↦ inl (next, refl, refl, refl, refl) | inr far ↦ inr (λ halves. far halves.0) ]
halves_cases access.Write _ _ _ m n = inr (λ (next, read, locked, write, also). cc)
halves_cases _ access.Read _ _ m n = inr (λ (next, read, locked, write, also). cc)
halves_cases _ _ false _ m n = inr (λ (next, read, locked, write, also). cc)
halves_cases _ _ _ false m n = inr (λ (next, read, locked, write, also). cc)

-- the two are a locked read and the locked write next to it, or rmw does not list them
pub locked_pair_cases : (x : Execution) → HasLockedPairs x → (a b : Event) → IsIn x.threads a → IsIn x.threads b → Po a b
    → LockedPairAt (items_of x.threads a.id.thread) a.id.index b.id.index ⊎ (Rmw x.rmw a b → ⊥)
locked_pair_cases x pairs a b in_a in_b po =
    elim (halves_cases a.kind b.kind a.locked b.locked a.id.index b.id.index) [
      | inl (next, read, locked, write, also) ↦ inl (
        next,
        at_number IsRead x.threads a.id.thread a refl in_a read,
        at_number IsLocked x.threads a.id.thread a refl in_a locked,
        at_number IsWrite x.threads a.id.thread b po.thread in_b write,
        at_number IsLocked x.threads a.id.thread b po.thread in_b also,
      )
      | inr not ↦ inr (λ listed.
          let pair = ((pairs (record { first = a.id; second = b.id })).0 listed).1 in
          not (
            pair.0,
            from_number IsRead x.threads a.id.thread a refl in_a pair.1,
            from_number IsLocked x.threads a.id.thread a refl in_a pair.2,
            from_number IsWrite x.threads a.id.thread b po.thread in_b pair.3,
            from_number IsLocked x.threads a.id.thread b po.thread in_b pair.4,
          ))
    ]

-- what x86-TSO keeps of two events with the mapping-in fences, the order keeps
pub mapped_pair : (order : Order) (by : Fences) → Keeps order by → (private : EventId → Bool) (x y : Execution) → MfencesFrom by.full private x y
    → (a b : Event) → IsIn x.threads a → IsIn x.threads b → private a.id ≡ false → private b.id ≡ false
    → IsMappedIn by x.threads a b → Within y.threads a b → SomeKind (ExternalPair order false x) a b
mapped_pair order by keeps private x y mfences a b in_a in_b shown_a shown_b mapped within =
    let full = keeps.full x a b within.po in
    let reads : IsRead a → SomeKind (ExternalPair order false x) a b = λ read. elim (mapped.read read) [ inl fenced ↦ keeps.read x a b in_a within.po read fenced | inr fenced ↦ full fenced ] in
    elim within.why [
      | inl (inl read) ↦ reads read
      | inl (inr write) ↦
          let Goal : AccessKind → Type 0 = λ kind. a.kind ≡ kind → SomeKind (ExternalPair order false x) a b in
          let cases : Goal a.kind = elim a.kind as Goal [
            | access.Read ↦ (λ read. reads read)
            | access.Write ↦ (λ first. elim (mapped.writes first write) [
              | inl fenced ↦ keeps.writes x a b in_a in_b within.po first write fenced
              | inr fenced ↦ full fenced
            ])
          ] in
          cases refl
      | inr (inl fenced) ↦ full (mfences a b in_a in_b within.po shown_a shown_b fenced)
      | inr (inr locked) ↦ full (mapped.locked locked)
    ]

-- a step between events that are not private is a pair of the order
pub ordered_step : (order : Order) (by : Fences) → Keeps order by → (private : EventId → Bool) (x y : Execution) → MfencesFrom by.full private x y
    → HasLockedPairs x → HasMappingFences by private x
    → (a b : Event) → IsIn x.threads a → IsIn x.threads b → private a.id ≡ false → private b.id ≡ false
    → Step x y a b → SomeKind (ExternalPair order false x) a b
ordered_step order by keeps private x y mfences pairs fences a b in_a in_b shown_a shown_b (inl within) =
    elim (locked_pair_cases x pairs a b in_a in_b within.po) [
      | inl pair ↦ keeps.locked_pair x a b within.po pair
      | inr not ↦ mapped_pair order by keeps private x y mfences a b in_a in_b shown_a shown_b
          (fences a b in_a in_b within.po shown_a shown_b not) within
    ]
ordered_step order by keeps private x y mfences pairs fences a b in_a in_b shown_a shown_b (inr (apart, inl rf)) = keeps.external_rf x a b apart rf
ordered_step order by keeps private x y mfences pairs fences a b in_a in_b shown_a shown_b (inr (apart, inr (inl fr))) = keeps.external_fr x a b apart fr
ordered_step order by keeps private x y mfences pairs fences a b in_a in_b shown_a shown_b (inr (apart, inr (inr co))) = keeps.external_co x a b apart co

-- a cycle of x86 pairs gives a cycle of a relation that has each step between events that are not private
pub no_private : (private : EventId → Bool) (x y : Execution) → SameEvents x y → HasPrivate private x → Acyclic x.threads (SomeKind (InternalPair x))
    → (R : Event → Event → Type 0)
    → ((a b : Event) → IsIn x.threads a → IsIn x.threads b → private a.id ≡ false → private b.id ≡ false → Step x y a b → R a b)
    → (a : Event) (via : List Event) → Chain (Among y.threads (TsoPair y)) a via a
    → (b : Event) × (past : List Event) × Chain (Among x.threads R) b past b
no_private private x y same needs internal R each a via cycle =
    let steps = chain_map (Among y.threads (TsoPair y)) (Among x.threads (Step x y))
    (λ v w pair. record {
      first = in_same x y same v pair.first;
      second = in_same x y same w pair.second;
      pair = step_of x y same internal v w (in_same x y same v pair.first) (in_same x y same w pair.second) pair.pair;
    })
    a via a cycle in
    let shown = cut_cycle (Among x.threads (Step x y)) (λ e. private e.id) (can_cut x y private needs) a via steps in (
      shown.0,
      shown.1,
      chain_map (Shown (Among x.threads (Step x y)) (λ e. private e.id)) (Among x.threads R)
          (λ v w pair. record {
            first = pair.pair.first;
            second = pair.pair.second;
            pair = each v w pair.pair.first pair.pair.second pair.first pair.second pair.pair.pair;
          })
          shown.0 shown.1 shown.0 shown.2,
    )

-- the axioms but External carry over to the same events
pub internal_carries : (x y : Execution) → SameEvents x y → Acyclic x.threads (SomeKind (InternalPair x)) → Acyclic y.threads (SomeKind (InternalPair y))
internal_carries x y same internal a via cycle = internal a via (chain_map (Among y.threads (SomeKind (InternalPair y))) (Among x.threads (SomeKind (InternalPair x)))
    (λ v w pair. record { first = in_same x y same v pair.first; second = in_same x y same w pair.second; pair = internal_same x y same v w pair.pair }) a via a cycle)

pub atomic_carries : (x y : Execution) → SameEvents x y → Atomic x → Atomic y
atomic_carries x y same atomic r w v in_r in_w in_v pair apart fr also_apart co =
    atomic r w v (in_same x y same r in_r) (in_same x y same w in_w) (in_same x y same v in_v)
    (subst (λ (rmw : List EventPair). Rmw rmw r v) same.rmw pair) apart (fr_same x y same r w fr) also_apart (co_same x y same w v co)

-- what an order allows with the mapping-in fences, x86-TSO allows
pub to_tso : (order : Order) (by : Fences) → Keeps order by → (private : EventId → Bool) (x y : Execution) → SameEvents x y → MfencesFrom by.full private x y
    → HasPrivate private x → HasLockedPairs x → HasMappingFences by private x → Consistent order false x → Consistent Tso true y
to_tso order by keeps private x y same mfences needs pairs fences consistent = record {
  internal = internal_carries x y same consistent.internal;
  atomic = atomic_carries x y same consistent.atomic;
  external = λ a via cycle.
      let found = no_private private x y same needs consistent.internal (SomeKind (ExternalPair order false x))
      (ordered_step order by keeps private x y mfences pairs fences) a via cycle in
      consistent.external found.0 found.1 found.2;
}

pub limm_is_tso_lem : LimmIsTso
limm_is_tso_lem = to_tso Limm limm_fences limm_keeps

pub arm_is_tso_lem : ArmIsTso
arm_is_tso_lem = to_tso Arm arm_fences arm_keeps
