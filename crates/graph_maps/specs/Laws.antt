-- The laws of the maps, over any two executions with the same events.
use Rattle.std.specs.Prelude.{◌≡◌, ℕ, Bool, true, false, List, Option}
use Rattle.ev_graph.specs.declared.events.EventId.{EventId}
use Rattle.ev_graph.specs.declared.events.FenceKind.TheVariants as fence
use Rattle.ev_graph.specs.declared.execution.Execution.{Execution}
use Rattle.ev_graph.specs.Memory.{Cell}
use Rattle.ev_graph.specs.Events.{Event, IsIn}
use Rattle.ev_graph.specs.Cycle.{Chain, Among, Acyclic}
use Rattle.ev_graph.specs.WellFormed.{HasLockedPairs, WellFormed}
use Rattle.order_models.specs.declared.edge.EdgeKind.{EdgeKind}
use Rattle.order_models.specs.Orders.{Tso, Limm, Arm}
use Rattle.order_models.specs.Consistent.{Consistent, InternalPair, ExternalPair, SomeKind, Local, IsWithin}
use Rattle.graph_maps.specs.Needs.{SameEvents, FencesFrom, MfencesFrom, limm_fences, arm_fences, HasMappingFences, HasPrivate, HasWriteSources}

-- what Armv8 allows, the intermediate form allows with its fences only where the DMBs stand
abbrev pub ArmIsLimm : Type 0
ArmIsLimm = (x y : Execution) → SameEvents x y
    → FencesFrom fence.DmbLd fence.Frm x y → FencesFrom fence.DmbSt fence.Fww x y → FencesFrom fence.DmbFull fence.Fsc x y
    → Consistent Arm false x → Consistent Limm false y

-- what the intermediate form allows with the mapping-in fences, x86-TSO allows with an MFENCE only where an Fsc stands
abbrev pub LimmIsTso : Type 0
LimmIsTso = (private : EventId → Bool) (x y : Execution) → SameEvents x y → MfencesFrom fence.Fsc private x y
    → HasPrivate private x → HasLockedPairs x → HasMappingFences limm_fences private x
    → Consistent Limm false x → Consistent Tso true y

-- what Armv8 allows with the mapping-in fences as DMBs, x86-TSO allows with an MFENCE only where a full DMB stands
abbrev pub ArmIsTso : Type 0
ArmIsTso = (private : EventId → Bool) (x y : Execution) → SameEvents x y → MfencesFrom fence.DmbFull private x y
    → HasPrivate private x → HasLockedPairs x → HasMappingFences arm_fences private x
    → Consistent Arm false x → Consistent Tso true y

-- the pairs of x86-TSO over all locations
abbrev pub TsoPair : Execution → Event → Event → Type 0
TsoPair x = SomeKind (ExternalPair Tso true x)

-- two x86 pairs within a thread by way of an unlocked access give one that the thread keeps without it
abbrev pub PrivateIsNeedless : Type 0
PrivateIsNeedless = (x : Execution) (a p b : Event) → Acyclic x.threads (SomeKind (InternalPair x))
    → IsIn x.threads a → IsIn x.threads p → IsIn x.threads b → IsWithin a p → IsWithin p b → p.locked ≡ false
    → TsoPair x a p → TsoPair x p b → (kind : EdgeKind) × Local Tso x.threads kind a b

-- a pair whose ends are not private
pub record BetweenShared (private : EventId → Bool) (R : Event → Event → Type 0) (a b : Event) : Type 0 where
  pub pair : R a b
  pub first : private a.id ≡ false
  pub second : private b.id ≡ false

-- a cycle of x86 pairs gives one without private accesses
abbrev pub CyclesWithoutPrivate : Type 0
CyclesWithoutPrivate = (private : EventId → Bool) (x : Execution) → HasPrivate private x → Acyclic x.threads (SomeKind (InternalPair x))
    → (a : Event) (via : List Event) → Chain (Among x.threads (TsoPair x)) a via a
    → (b : Event) × (past : List Event) × Chain (Among x.threads (BetweenShared private (TsoPair x))) b past b

-- x86-TSO still allows an execution where MFENCEs are left out, and where they come or go beside private accesses
abbrev pub FewerMfences : Type 0
FewerMfences = (private : EventId → Bool) (x y : Execution) → SameEvents x y → MfencesFrom fence.Mfence private x y
    → HasPrivate private x → Consistent Tso true x → Consistent Tso true y

-- the sources of a well-formed execution are writes that cover the byte
abbrev pub WellFormedHasSources : Type 0
WellFormedHasSources = (cells : ℕ → Option Cell) (x : Execution) → WellFormed cells x → HasWriteSources x
