-- What the maps need of an execution, and how two executions compare.
use Rattle.std.specs.Prelude.{◌≡◌, ◌<◌, ◌+◌, ◌⊎◌, ℕ, Bool, true, false, List, slice_get, Some}
use Rattle.ev_graph.specs.declared.events.EventId.{EventId}
use Rattle.ev_graph.specs.declared.events.FenceItem.{FenceItem}
use Rattle.ev_graph.specs.declared.events.FenceKind.{FenceKind}
use Rattle.ev_graph.specs.declared.events.FenceKind.TheVariants as fence
use Rattle.ev_graph.specs.declared.events.Item.TheVariants as item
use Rattle.ev_graph.specs.declared.execution.Execution.{Execution}
use Rattle.ev_graph.specs.declared.execution.Source.TheVariants.{From}
use Rattle.ev_graph.specs.declared.execution.ThreadRun.{ThreadRun}
use Rattle.ev_graph.specs.Events.{Event, events, items_of, IsIn, IsRead, IsWrite, IsLocked, Covers, Overlap, FenceBetween}
use Rattle.ev_graph.specs.Pairs.{Po, External, SourceOf, Rmw}

-- the two have the same events, rf, co and rmw; fences, values and the addresses of instructions may differ
pub record SameEvents (x y : Execution) : Type 0 where
  pub threads : (t : ℕ) → events (items_of y.threads t) ≡ events (items_of x.threads t)
  pub rf : y.rf ≡ x.rf
  pub co : y.co ≡ x.co
  pub rmw : y.rmw ≡ x.rmw

-- each fence of the threads is of one of these kinds
abbrev pub HasFences : (FenceKind → Type 0) → List ThreadRun → Type 0
HasFences P threads = (t place : ℕ) (f : FenceItem) → slice_get (items_of threads t) place ≡ Some (item.Fence f) → P f.kind

-- the kind is one of Arm's DMB
abbrev pub IsDmb : FenceKind → Type 0
IsDmb fence.DmbLd = Unit {0}
IsDmb fence.DmbSt = Unit {0}
IsDmb fence.DmbFull = Unit {0}
IsDmb _ = ⊥

-- the kind is one of the intermediate form
abbrev pub IsLimmFence : FenceKind → Type 0
IsLimmFence fence.Frm = Unit {0}
IsLimmFence fence.Fww = Unit {0}
IsLimmFence fence.Fsc = Unit {0}
IsLimmFence _ = ⊥

-- a fence of this kind stands between two events of a thread
abbrev pub Fenced : FenceKind → List ThreadRun → Event → Event → Type 0
Fenced kind threads a b = FenceBetween kind (items_of threads a.id.thread) a.id.index b.id.index

-- y has a fence of the second kind between two events only where x has one of the first kind
abbrev pub FencesFrom : FenceKind → FenceKind → Execution → Execution → Type 0
FencesFrom kind renamed x y = (a b : Event) → IsIn x.threads a → IsIn x.threads b → Po a b → Fenced renamed y.threads a b → Fenced kind x.threads a b

-- y has an MFENCE between two events that are not private only where x has a fence of this kind
abbrev pub MfencesFrom : FenceKind → (EventId → Bool) → Execution → Execution → Type 0
MfencesFrom kind private x y = (a b : Event) → IsIn x.threads a → IsIn x.threads b → Po a b → private a.id ≡ false → private b.id ≡ false
    → Fenced fence.Mfence y.threads a b → Fenced kind x.threads a b

-- three kinds of fences: behind a read, between writes, and between any two accesses
pub record Fences : Type 0 where
  pub read : FenceKind
  pub writes : FenceKind
  pub full : FenceKind

abbrev pub limm_fences : Fences
limm_fences = record { read = fence.Frm; writes = fence.Fww; full = fence.Fsc }

abbrev pub arm_fences : Fences
arm_fences = record { read = fence.DmbLd; writes = fence.DmbSt; full = fence.DmbFull }

-- the fences that an x86 pair is mapped in with: a full one at a locked access, and else one behind a read or between writes
pub record IsMappedIn (by : Fences) (threads : List ThreadRun) (a b : Event) : Type 0 where
  pub locked : IsLocked a ⊎ IsLocked b → Fenced by.full threads a b
  pub read : IsRead a → Fenced by.read threads a b ⊎ Fenced by.full threads a b
  pub writes : IsWrite a → IsWrite b → Fenced by.writes threads a b ⊎ Fenced by.full threads a b

-- the mapping-in fences stand between each two accesses of a thread that are not private and not the halves of one atomic instruction
abbrev pub HasMappingFences : Fences → (EventId → Bool) → Execution → Type 0
HasMappingFences by private x = (a b : Event) → IsIn x.threads a → IsIn x.threads b → Po a b
    → private a.id ≡ false → private b.id ≡ false → (Rmw x.rmw a b → ⊥) → IsMappedIn by x.threads a b

-- no private access is locked
abbrev pub AreUnlocked : (EventId → Bool) → List ThreadRun → Type 0
AreUnlocked private threads = (a : Event) → IsIn threads a → private a.id ≡ true → a.locked ≡ false

-- no private access overlaps an access of another thread
abbrev pub AreApart : (EventId → Bool) → List ThreadRun → Type 0
AreApart private threads = (a b : Event) → IsIn threads a → IsIn threads b → private a.id ≡ true → External a b → Overlap a b → ⊥

-- each source but the start is a write that covers the byte
abbrev pub HasWriteSources : Execution → Type 0
HasWriteSources x = (r : Event) (k : ℕ) (w : EventId) → IsIn x.threads r → SourceOf x.rf r k (From w)
    → (k < r.size) × ((a : Event) × IsIn x.threads a × (a.id ≡ w) × IsWrite a × Covers a (r.address + k))

-- what cutting out private accesses needs
pub record HasPrivate (private : EventId → Bool) (x : Execution) : Type 0 where
  pub unlocked : AreUnlocked private x.threads
  pub apart : AreApart private x.threads
  pub sources : HasWriteSources x
