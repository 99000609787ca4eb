-- Message passing is allowed on Armv8 where no fence keeps the accesses of a thread in order.
use Rattle.std.proofs.Common.{◌≡◌, ◌<◌, ◌-◌, ℕ, zero, suc, false, inl, inr, Some, None}
use Rattle.std.proofs.Common.{refl, arith}
use Rattle.std.specs.List.{slice_get}
use Rattle.ev_graph.specs.declared.events.FenceItem.{FenceItem}
use Rattle.ev_graph.specs.declared.events.FenceKind.{FenceKind}
use Rattle.ev_graph.specs.declared.events.Item.TheVariants as item
use Rattle.ev_graph.specs.Events.{Event, IsIn, IsLocked, items_of, FenceBetween}
use Rattle.ev_graph.proofs.EventLemmas.{from_number}
use Rattle.order_models.specs.declared.edge.EdgeKind.TheVariants as edge
use Rattle.order_models.specs.Orders.{Arm}
use Rattle.order_models.specs.Consistent.{InternalPair, ExternalPair, SomeKind, Local, Consistent}
use Rattle.order_models.proofs.Acyclic.{acyclic_by_rank}
use Rattle.litmus.specs.MessagePassing.{message_passing}
use Rattle.litmus.proofs.MessagePassingEvents.{bare, IsKnown, known, no_poloc, no_co, rf_indexes, fr_indexes}

-- second accesses before first ones
rank : Event → ℕ
rank a = 1 - a.id.index

-- from a second access to a first the rank rises
rises : (a b : Event) → (a.id.index ≡ 1) × (b.id.index ≡ 0) → rank a < rank b
unfolding rank
rises a b (second, first) = omega arith

-- each pair of one location leads from a second access to a first
internal_rises : (a b : Event) → IsIn bare.threads a → IsIn bare.threads b
    → SomeKind (InternalPair bare) a b → rank a < rank b
internal_rises a b in_a in_b (edge.Po, loc) = absurd (no_poloc a b (known a in_a) (known b in_b) loc)
internal_rises a b in_a in_b (edge.Rf, rf) = rises a b (rf_indexes a b rf)
internal_rises a b in_a in_b (edge.Co, co) = absurd (no_co a b (known a in_a) (known b in_b) co)
internal_rises a b in_a in_b (edge.Fr, fr) = rises a b (fr_indexes a b (known a in_a) (known b in_b) fr)
internal_rises a b in_a in_b (_, pair) = absurd pair

-- no thread has a fence
no_fence : (t place : ℕ) (f : FenceItem) → slice_get (items_of bare.threads t) place ≡ Some (item.Fence f) → ⊥
no_fence zero zero f here = cc
no_fence zero (suc zero) f here = cc
no_fence zero (suc (suc place)) f here = cc
no_fence (suc zero) zero f here = cc
no_fence (suc zero) (suc zero) f here = cc
no_fence (suc zero) (suc (suc place)) f here = cc
no_fence (suc (suc t)) place f here = cc

-- so no fence stands between two accesses
none_between : (kind : FenceKind) (t m n : ℕ) → FenceBetween kind (items_of bare.threads t) m n → ⊥
none_between kind t m n between = no_fence t between.place between.fence between.here

-- no event is locked
none_locked : (a : Event) → IsKnown a → IsLocked a → ⊥
none_locked a (inl write) locked = let unlocked = write.unlocked in cc
none_locked a (inr read) locked = let unlocked = read.unlocked in cc

-- Armv8 keeps no pair of a thread
no_arm : (a b : Event) → IsIn bare.threads a → SomeKind (Local Arm bare.threads) a b → ⊥
no_arm a b in_a (edge.Rmw, local) =
    none_locked a (known a in_a) (from_number IsLocked bare.threads a.id.thread a refl in_a local.holds.2)
no_arm a b in_a (edge.Dmb, local) = none_between _ a.id.thread a.id.index b.id.index local.holds
no_arm a b in_a (edge.Ld, local) = none_between _ a.id.thread a.id.index b.id.index local.holds.1
no_arm a b in_a (edge.St, local) = none_between _ a.id.thread a.id.index b.id.index local.holds.2
no_arm a b in_a (_, local) = absurd local.holds

-- each pair of the order leads from a second access to a first
external_rises : (a b : Event) → IsIn bare.threads a → IsIn bare.threads b
    → SomeKind (ExternalPair Arm false bare) a b → rank a < rank b
external_rises a b in_a in_b (edge.Co, pair) = absurd (let within = pair.0 in cc)
external_rises a b in_a in_b (edge.Fr, pair) = absurd (let within = pair.0 in cc)
external_rises a b in_a in_b (edge.Rfe, pair) = rises a b (rf_indexes a b pair.1)
external_rises a b in_a in_b (edge.Fre, pair) = rises a b (fr_indexes a b (known a in_a) (known b in_b) pair.1)
external_rises a b in_a in_b (edge.Coe, pair) = absurd (no_co a b (known a in_a) (known b in_b) pair.1)
external_rises a b in_a in_b (kind, local) = absurd (no_arm a b in_a (kind, local))

-- Armv8 allows message passing without fences
pub arm_allows : Consistent Arm false (message_passing None None)
arm_allows = record {
  internal = acyclic_by_rank bare.threads (SomeKind (InternalPair bare)) rank internal_rises;
  atomic = λ r w v in_r in_w in_v (i, here) apart fr also co. absurd cc;
  external = acyclic_by_rank bare.threads (SomeKind (ExternalPair Arm false bare)) rank external_rises;
}
