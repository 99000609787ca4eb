-- Store buffering: allowed where nothing orders a write before a later read, and forbidden by a full fence between them.
use Rattle.std.proofs.Common.{◌≡◌, ◌<◌, ℕ, zero, suc, true, false, [], ◌∷◌, ◌⊎◌, inl, inr, Option, Some, None, refl, sym, ap, arith}
use Rattle.std.specs.List.{slice_get}
use Rattle.ev_graph.specs.declared.events.AccessKind.{AccessKind}
use Rattle.ev_graph.specs.declared.events.AccessKind.TheVariants.{Read, Write}
use Rattle.ev_graph.specs.declared.events.EventId.{EventId}
use Rattle.ev_graph.specs.declared.events.FenceKind.{FenceKind}
use Rattle.ev_graph.specs.declared.events.FenceKind.TheVariants as fence
use Rattle.ev_graph.specs.declared.execution.Source.TheVariants.{Start}
use Rattle.ev_graph.specs.Events.{Event, event, IsIn, IsRead, IsWrite, IsLocked, FenceBetween}
use Rattle.ev_graph.specs.Pairs.{Po, PoLoc, Co, Fr}
use Rattle.ev_graph.specs.StoreBuffering.{sb_write, sb_read, sb_items, sb_entry, store_buffering, IsSbWrite, IsSbRead}
use Rattle.ev_graph.proofs.EventLemmas.{from_number}
use Rattle.ev_graph.proofs.StoreBufferingLemmas.{sb_known, sb_from, sb_fence}
use Rattle.order_models.specs.declared.edge.EdgeKind.TheVariants as edge
use Rattle.order_models.specs.Orders.{Tso, Arm}
use Rattle.order_models.specs.Consistent.{InternalPair, ExternalPair, SomeKind, Local, Consistent}
use Rattle.order_models.proofs.Acyclic.{acyclic_by_rank}

-- no two events of a thread have a byte in common
no_poloc : (a b : Event) → IsSbWrite a ⊎ IsSbRead a → IsSbWrite b ⊎ IsSbRead b → PoLoc a b → ⊥
no_poloc a b (inr read) known loc = elim known [
  | inl write ↦ (let order = loc.po.order in let first = read.index in let second = write.index in omega arith)
  | inr later ↦ (let order = loc.po.order in let first = read.index in let second = later.index in omega arith)
]
no_poloc a b (inl write) (inl later) loc = let order = loc.po.order in let first = write.index in let second = later.index in omega arith
no_poloc a b (inl write) (inr read) loc =
    let thread = loc.po.thread in
    let first = write.address in let second = read.address in
    let one = write.size in let also = read.size in
    let common = loc.overlap in
    let left = common.1 in let right = common.2 in
    omega arith

-- in program order stands the write before the read
po_kinds : (a b : Event) → IsSbWrite a ⊎ IsSbRead a → IsSbWrite b ⊎ IsSbRead b → Po a b → IsSbWrite a × IsSbRead b
po_kinds a b (inr read) (inl write) po = absurd (let order = po.order in let first = read.index in let second = write.index in omega arith)
po_kinds a b (inr read) (inr later) po = absurd (let order = po.order in let first = read.index in let second = later.index in omega arith)
po_kinds a b (inl write) (inl later) po = absurd (let order = po.order in let first = write.index in let second = later.index in omega arith)
po_kinds a b (inl write) (inr read) po = (write, read)

-- the two writes have no byte in common
co_threads : (value i j : ℕ) (fence : Option FenceKind) (a b : EventId) → i < j → slice_get (store_buffering value fence).co i ≡ Some a
    → slice_get (store_buffering value fence).co j ≡ Some b → (a.thread ≡ 0) × (b.thread ≡ 1)
co_threads value zero zero fence a b less first second = absurd (omega arith)
co_threads value zero (suc zero) fence a b less first second =
    let one : record { thread = 0; index = 0 } ≡ a = cc in
    let two : record { thread = 1; index = 0 } ≡ b = cc in
    (ap {B = ℕ} (λ (id : EventId). id.thread) (sym one), ap {B = ℕ} (λ (id : EventId). id.thread) (sym two))
co_threads value zero (suc (suc j)) fence a b less first second = absurd cc
co_threads value (suc i) zero fence a b less first second = absurd (omega arith)
co_threads value (suc zero) (suc zero) fence a b less first second = absurd (omega arith)
co_threads value (suc zero) (suc (suc j)) fence a b less first second = absurd cc
co_threads value (suc (suc i)) (suc j) fence a b less first second = absurd cc

no_co : (value : ℕ) (fence : Option FenceKind) (a b : Event) → IsSbWrite a ⊎ IsSbRead a → IsSbWrite b ⊎ IsSbRead b → Co (store_buffering value fence).co a b → ⊥
no_co value fence a b (inr read) known co = let first = co.first in let kind = read.kind in cc
no_co value fence a b (inl write) (inr read) co = let second = co.second in let kind = read.kind in cc
no_co value fence a b (inl write) (inl later) co =
    let threads = co_threads value co.earlier.i co.earlier.j fence a.id b.id co.earlier.order co.earlier.first co.earlier.second in
    let left_thread = threads.0 in let right_thread = threads.1 in
    let first = write.address in let second = later.address in
    let one = write.size in let also = later.size in
    let common = co.overlap in
    let left = common.1 in let right = common.2 in
    omega arith

-- reads before writes
rank_of : AccessKind → ℕ
rank_of Read = 0
rank_of Write = 1

fr_rises : (value : ℕ) (fence : Option FenceKind) (a b : Event) → Fr (store_buffering value fence).rf (store_buffering value fence).co a b → rank_of a.kind < rank_of b.kind
unfolding rank_of
fr_rises value fence a b fr = rw (fr.read, fr.write) (omega arith)

-- each pair of one location is a read before a write
internal_rises : (value : ℕ) (fence : Option FenceKind) (a b : Event) → IsIn (store_buffering value fence).threads a → IsIn (store_buffering value fence).threads b
    → SomeKind (InternalPair (store_buffering value fence)) a b → rank_of a.kind < rank_of b.kind
internal_rises value fence a b in_a in_b (edge.Po, loc) = absurd (no_poloc a b (sb_known value fence a in_a) (sb_known value fence b in_b) loc)
internal_rises value fence a b in_a in_b (edge.Rf, rf) = absurd (sb_from value fence b rf.k a.id rf.source)
internal_rises value fence a b in_a in_b (edge.Co, co) = absurd (no_co value fence a b (sb_known value fence a in_a) (sb_known value fence b in_b) co)
internal_rises value fence a b in_a in_b (edge.Fr, fr) = fr_rises value fence a b fr
internal_rises value fence a b in_a in_b (_, pair) = absurd pair

-- x86-TSO keeps no pair of a thread without a fence
no_tso : (value : ℕ) (a b : Event) → IsIn (store_buffering value None).threads a → IsIn (store_buffering value None).threads b
    → SomeKind (Local Tso (store_buffering value None).threads) a b → ⊥
no_tso value a b in_a in_b (edge.Ppo, local) =
    let threads = (store_buffering value None).threads in
    let kinds = po_kinds a b (sb_known value None a in_a) (sb_known value None b in_b) local.po in
    let write = kinds.0.kind in let read = kinds.1.kind in
    elim local.holds [
      | inl first ↦ (let is = from_number IsRead threads a.id.thread a refl in_a first in cc)
      | inr second ↦ (let is = from_number IsWrite threads a.id.thread b local.po.thread in_b second in cc)
    ]
no_tso value a b in_a in_b (edge.Mfence, local) =
    let between = local.holds in
    let none = sb_fence value None a.id.thread between.place between.fence between.here in
    cc
no_tso value a b in_a in_b (edge.Implied, local) =
    let threads = (store_buffering value None).threads in
    let kinds = po_kinds a b (sb_known value None a in_a) (sb_known value None b in_b) local.po in
    let left = kinds.0.unlocked in let right = kinds.1.unlocked in
    elim local.holds [
      | inl first ↦ (let is = from_number IsLocked threads a.id.thread a refl in_a first in cc)
      | inr second ↦ (let is = from_number IsLocked threads a.id.thread b local.po.thread in_b second in cc)
    ]
no_tso value a b in_a in_b (_, local) = absurd local.holds

external_rises : (value : ℕ) (a b : Event) → IsIn (store_buffering value None).threads a → IsIn (store_buffering value None).threads b
    → SomeKind (ExternalPair Tso true (store_buffering value None)) a b → rank_of a.kind < rank_of b.kind
external_rises value a b in_a in_b (edge.Co, pair) = absurd (no_co value None a b (sb_known value None a in_a) (sb_known value None b in_b) pair.2)
external_rises value a b in_a in_b (edge.Fr, pair) = fr_rises value None a b pair.2
external_rises value a b in_a in_b (edge.Rfe, pair) = absurd (sb_from value None b pair.1.k a.id pair.1.source)
external_rises value a b in_a in_b (edge.Fre, pair) = fr_rises value None a b pair.1
external_rises value a b in_a in_b (edge.Coe, pair) = absurd (no_co value None a b (sb_known value None a in_a) (sb_known value None b in_b) pair.1)
external_rises value a b in_a in_b (kind, local) = absurd (no_tso value a b in_a in_b (kind, local))

-- x86-TSO allows store buffering
pub tso_allows : Consistent Tso true (store_buffering 0 None)
tso_allows = record {
  internal = acyclic_by_rank (store_buffering 0 None).threads (SomeKind (InternalPair (store_buffering 0 None))) (λ e. rank_of e.kind) (internal_rises 0 None);
  atomic = λ r w v in_r in_w in_v (i, here) apart fr also co. absurd cc;
  external = acyclic_by_rank (store_buffering 0 None).threads (SomeKind (ExternalPair Tso true (store_buffering 0 None))) (λ e. rank_of e.kind) (external_rises 0);
}

-- the fence of a thread stands between its write and its read
fence_of : (kind : FenceKind) (t : ℕ) → FenceBetween kind (sb_items t 0 (Some kind)) 0 1
fence_of kind t = record {
  place = 1;
  fence = record { kind = kind; place = 2 };
  here = refl;
  same = refl;
  behind = omega arith;
  ahead = omega arith;
}

write_then_read : (t : ℕ) → Po (event (sb_write t)) (event (sb_read t 0))
write_then_read t = record { thread = refl; order = omega arith }

-- each read finds the start that the other thread's write overwrites
first_fr : (kind : FenceKind) → Fr (store_buffering 0 (Some kind)).rf (store_buffering 0 (Some kind)).co (event (sb_read 0 0)) (event (sb_write 1))
first_fr kind = record {
  read = refl;
  write = refl;
  k = 0;
  within = omega arith;
  covers = (omega arith, omega arith);
  source = Start;
  from = record { entry = sb_entry 0; listed = (0, refl); read = refl; byte = refl };
  later = tt;
}

second_fr : (kind : FenceKind) → Fr (store_buffering 0 (Some kind)).rf (store_buffering 0 (Some kind)).co (event (sb_read 1 0)) (event (sb_write 0))
second_fr kind = record {
  read = refl;
  write = refl;
  k = 0;
  within = omega arith;
  covers = (omega arith, omega arith);
  source = Start;
  from = record { entry = sb_entry 1; listed = (1, refl); read = refl; byte = refl };
  later = tt;
}

zero_one : ◌≡◌ {A = ℕ} 0 1 → ⊥
zero_one same = omega arith

one_zero : ◌≡◌ {A = ℕ} 1 0 → ⊥
one_zero same = omega arith

-- the cycle of four: write, read, the other write, the other read
pub arm_forbids : Consistent Arm false (store_buffering 0 (Some fence.DmbFull)) → ⊥
arm_forbids consistent = consistent.external (event (sb_write 0)) (event (sb_read 0 0) ∷ event (sb_write 1) ∷ event (sb_read 1 0) ∷ []) (
  record { first = refl; second = refl; pair = (edge.Dmb, record { po = write_then_read 0; holds = fence_of fence.DmbFull 0 }) },
  (
    record { first = refl; second = refl; pair = (edge.Fre, (zero_one, first_fr fence.DmbFull)) },
    (
      record { first = refl; second = refl; pair = (edge.Dmb, record { po = write_then_read 1; holds = fence_of fence.DmbFull 1 }) },
      record { first = refl; second = refl; pair = (edge.Fre, (one_zero, second_fr fence.DmbFull)) },
    ),
  ),
)

pub tso_forbids : Consistent Tso true (store_buffering 0 (Some fence.Mfence)) → ⊥
tso_forbids consistent = consistent.external (event (sb_write 0)) (event (sb_read 0 0) ∷ event (sb_write 1) ∷ event (sb_read 1 0) ∷ []) (
  record { first = refl; second = refl; pair = (edge.Mfence, record { po = write_then_read 0; holds = fence_of fence.Mfence 0 }) },
  (
    record { first = refl; second = refl; pair = (edge.Fre, (zero_one, first_fr fence.Mfence)) },
    (
      record { first = refl; second = refl; pair = (edge.Mfence, record { po = write_then_read 1; holds = fence_of fence.Mfence 1 }) },
      record { first = refl; second = refl; pair = (edge.Fre, (one_zero, second_fr fence.Mfence)) },
    ),
  ),
)
