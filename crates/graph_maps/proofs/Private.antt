-- Private accesses and x86 pairs: what goes by way of them is there without them.
use Rattle.std.proofs.Common.{◌≡◌, Bool, false, inl, inr, refl}
use Rattle.ev_graph.specs.declared.events.EventId.{EventId}
use Rattle.ev_graph.specs.declared.events.FenceKind.TheVariants as fence
use Rattle.ev_graph.specs.declared.execution.Execution.{Execution}
use Rattle.ev_graph.specs.Events.{Event, IsIn}
use Rattle.order_models.specs.declared.edge.EdgeKind.TheVariants as edge
use Rattle.order_models.specs.Consistent.{IsWithin}
use Rattle.graph_maps.specs.Needs.{SameEvents, MfencesFrom}
use Rattle.graph_maps.specs.Laws.{TsoPair, BetweenShared, PrivateIsNeedless, CyclesWithoutPrivate, FewerMfences}
use Rattle.graph_maps.proofs.Within.{Within, local_from_within, join_within}
use Rattle.graph_maps.proofs.Steps.{Step, step_of}
use Rattle.graph_maps.proofs.ToTso.{no_private, internal_carries, atomic_carries}

-- an execution has its own events
pub same_self : (x : Execution) → SameEvents x x
same_self x = record { threads = λ t. refl; rf = refl; co = refl; rmw = refl }

-- a step within a thread is a pair that the thread keeps
pub within_of : (x : Execution) (a b : Event) → IsWithin a b → Step x x a b → Within x.threads a b
within_of x a b same (inl within) = within
within_of x a b same (inr (apart, pair)) = absurd (apart same)

pub private_is_needless_lem : PrivateIsNeedless
private_is_needless_lem x a p b internal in_a in_p in_b first_same second_same unlocked first second =
    let upto = within_of x a p first_same (step_of x x (same_self x) internal a p in_a in_p first) in
    let after = within_of x p b second_same (step_of x x (same_self x) internal p b in_p in_b second) in
    elim (local_from_within x.threads a b in_a in_b (join_within x.threads a p b unlocked upto after)) [
      | inl local ↦ (edge.Ppo, local)
      | inr (inl local) ↦ (edge.Mfence, local)
      | inr (inr local) ↦ (edge.Implied, local)
    ]

-- a step is an x86 pair, where what y keeps x keeps
pub pair_of : (x y : Execution) (a b : Event) → IsIn x.threads a → IsIn x.threads b → (Within y.threads a b → Within x.threads a b) → Step x y a b → TsoPair x a b
pair_of x y a b in_a in_b keeps (inl within) = elim (local_from_within x.threads a b in_a in_b (keeps within)) [
  | inl local ↦ (edge.Ppo, local)
  | inr (inl local) ↦ (edge.Mfence, local)
  | inr (inr local) ↦ (edge.Implied, local)
]
pair_of x y a b in_a in_b keeps (inr (apart, inl rf)) = (edge.Rfe, (apart, rf))
pair_of x y a b in_a in_b keeps (inr (apart, inr (inl fr))) = (edge.Fre, (apart, fr))
pair_of x y a b in_a in_b keeps (inr (apart, inr (inr co))) = (edge.Coe, (apart, co))

pub cycles_without_private_lem : CyclesWithoutPrivate
cycles_without_private_lem private x needs internal a via cycle =
    no_private private x x (same_self x) needs internal (BetweenShared private (TsoPair x))
    (λ v w in_v in_w shown_v shown_w step. record { pair = pair_of x x v w in_v in_w (λ within. within) step; first = shown_v; second = shown_w })
    a via cycle

-- where MFENCEs of y stand where x has one, x keeps what y keeps
pub fewer : (private : EventId → Bool) (x y : Execution) → MfencesFrom fence.Mfence private x y → (a b : Event) → IsIn x.threads a → IsIn x.threads b
    → private a.id ≡ false → private b.id ≡ false → Within y.threads a b → Within x.threads a b
fewer private x y mfences a b in_a in_b shown_a shown_b within = record {
  po = within.po;
  why = elim within.why [
    | inl ends ↦ inl ends
    | inr (inl fenced) ↦ inr (inl (mfences a b in_a in_b within.po shown_a shown_b fenced))
    | inr (inr locked) ↦ inr (inr locked)
  ];
}

pub fewer_mfences_lem : FewerMfences
fewer_mfences_lem private x y same mfences needs consistent = record {
  internal = internal_carries x y same consistent.internal;
  atomic = atomic_carries x y same consistent.atomic;
  external = λ a via cycle.
      let found = no_private private x y same needs consistent.internal (TsoPair x)
      (λ v w in_v in_w shown_v shown_w step. pair_of x y v w in_v in_w (fewer private x y mfences v w in_v in_w shown_v shown_w) step)
      a via cycle in
      consistent.external found.0 found.1 found.2;
}
