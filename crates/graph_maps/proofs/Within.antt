-- The pairs that x86-TSO keeps within a thread, said of events.
use Rattle.std.proofs.Common.{◌≡◌, ◌≤◌, ℕ, false, List, ◌⊎◌, inl, inr, sym, ◌∙◌, subst, refl, arith}
use Rattle.ev_graph.specs.declared.events.FenceKind.{FenceKind}
use Rattle.ev_graph.specs.declared.events.FenceKind.TheVariants as fence
use Rattle.ev_graph.specs.declared.execution.ThreadRun.{ThreadRun}
use Rattle.ev_graph.specs.Events.{Event, items_of, IsIn, IsRead, IsWrite, IsLocked, FenceBetween}
use Rattle.ev_graph.specs.Pairs.{Po}
use Rattle.order_models.specs.declared.edge.EdgeKind.{EdgeKind}
use Rattle.order_models.specs.declared.edge.EdgeKind.TheVariants as edge
use Rattle.order_models.specs.Orders.{Tso}
use Rattle.order_models.specs.Consistent.{Local}
use Rattle.graph_maps.specs.Needs.{Fenced}
use Rattle.ev_graph.proofs.EventLemmas.{at_number, from_number}

-- in program order, and not a write before a read, or around an MFENCE, or with a locked end
pub record Within (threads : List ThreadRun) (a b : Event) : Type 0 where
  pub po : Po a b
  pub why : (IsRead a ⊎ IsWrite b) ⊎ (Fenced fence.Mfence threads a b ⊎ (IsLocked a ⊎ IsLocked b))

pub within_from_local : (threads : List ThreadRun) (kind : EdgeKind) (a b : Event) → IsIn threads a → IsIn threads b → Local Tso threads kind a b → Within threads a b
within_from_local threads edge.Ppo a b in_a in_b local = record {
  po = local.po;
  why = inl (elim local.holds [
    | inl read ↦ inl (from_number IsRead threads a.id.thread a refl in_a read)
    | inr write ↦ inr (from_number IsWrite threads a.id.thread b local.po.thread in_b write)
  ]);
}
within_from_local threads edge.Mfence a b in_a in_b local = record { po = local.po; why = inr (inl local.holds) }
within_from_local threads edge.Implied a b in_a in_b local = record {
  po = local.po;
  why = inr (inr (elim local.holds [
    | inl first ↦ inl (from_number IsLocked threads a.id.thread a refl in_a first)
    | inr second ↦ inr (from_number IsLocked threads a.id.thread b local.po.thread in_b second)
  ]));
}
within_from_local threads _ a b in_a in_b local = absurd local.holds

pub local_from_within : (threads : List ThreadRun) (a b : Event) → IsIn threads a → IsIn threads b → Within threads a b
    → Local Tso threads edge.Ppo a b ⊎ (Local Tso threads edge.Mfence a b ⊎ Local Tso threads edge.Implied a b)
local_from_within threads a b in_a in_b within = elim within.why [
  | inl (inl read) ↦ inl (record { po = within.po; holds = inl (at_number IsRead threads a.id.thread a refl in_a read) })
  | inl (inr write) ↦ inl (record { po = within.po; holds = inr (at_number IsWrite threads a.id.thread b within.po.thread in_b write) })
  | inr (inl fenced) ↦ inr (inl (record { po = within.po; holds = fenced }))
  | inr (inr (inl first)) ↦ inr (inr (record { po = within.po; holds = inl (at_number IsLocked threads a.id.thread a refl in_a first) }))
  | inr (inr (inr second)) ↦ inr (inr (record { po = within.po; holds = inr (at_number IsLocked threads a.id.thread b within.po.thread in_b second) }))
]

-- a fence that stands between two events stands between any two around them
pub wider : (kind : FenceKind) (threads : List ThreadRun) (a b c d : Event) → c.id.thread ≡ a.id.thread → c.id.index ≤ a.id.index → b.id.index ≤ d.id.index
    → Fenced kind threads a b → Fenced kind threads c d
wider kind threads a b c d same first second between =
    let At : ℕ → Type 0 = λ thread. FenceBetween kind (items_of threads thread) c.id.index d.id.index in
    subst At (sym same) (record {
      place = between.place;
      fence = between.fence;
      here = between.here;
      same = between.same;
      behind = let behind = between.behind in omega arith;
      ahead = let ahead = between.ahead in omega arith;
    })

pub po_join : (a p b : Event) → Po a p → Po p b → Po a b
po_join a p b first second = record { thread = first.thread ∙ second.thread; order = let one = first.order in let two = second.order in omega arith }

-- two pairs by way of an unlocked event give one without it
pub join_within : (threads : List ThreadRun) (a p b : Event) → p.locked ≡ false → Within threads a p → Within threads p b → Within threads a b
join_within threads a p b unlocked first second = record {
  po = po_join a p b first.po second.po;
  why =
      let upto = first.po.order in
      let after = second.po.order in
      elim first.why [
        | inl (inl read) ↦ inl (inl read)
        | inl (inr write) ↦ elim second.why [
          | inl (inl read) ↦ absurd cc
          | inl (inr later) ↦ inl (inr later)
          | inr (inl fenced) ↦ inr (inl (wider fence.Mfence threads p b a b first.po.thread (omega arith) (omega arith) fenced))
          | inr (inr (inl locked)) ↦ absurd cc
          | inr (inr (inr locked)) ↦ inr (inr (inr locked))
        ]
        | inr (inl fenced) ↦ inr (inl (wider fence.Mfence threads a p a b refl (omega arith) (omega arith) fenced))
        | inr (inr (inl locked)) ↦ inr (inr (inl locked))
        | inr (inr (inr locked)) ↦ absurd cc
      ];
}
