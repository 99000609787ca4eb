-- The events of an execution: its accesses without their values and without the addresses of their instructions.
use Rattle.std.specs.Prelude.{◌≡◌, ◌≤◌, ◌<◌, ◌+◌, ℕ, zero, suc, Bool, true, List, [], ◌∷◌, map, length, take, slice_get, Option, Some, IsSomeAnd}
use Rattle.ev_graph.specs.declared.events.EventId.{EventId}
use Rattle.ev_graph.specs.declared.events.Access.{Access}
use Rattle.ev_graph.specs.declared.events.AccessKind.{AccessKind}
use Rattle.ev_graph.specs.declared.events.AccessKind.TheVariants as kind
use Rattle.ev_graph.specs.declared.events.FenceKind.{FenceKind}
use Rattle.ev_graph.specs.declared.events.FenceItem.{FenceItem}
use Rattle.ev_graph.specs.declared.events.Item.{Item}
use Rattle.ev_graph.specs.declared.events.Item.TheVariants as item
use Rattle.ev_graph.specs.declared.execution.ThreadRun.{ThreadRun}

-- the accesses among items, in order
abbrev pub accesses : List Item → List Access
accesses [] = []
accesses (item.Access a ∷ items) = a ∷ accesses items
accesses (item.Fence f ∷ items) = accesses items
accesses (item.Input v ∷ items) = accesses items
accesses (item.Output v ∷ items) = accesses items

-- the items of the thread with this number; none where there is no such thread
abbrev pub items_of : List ThreadRun → ℕ → List Item
items_of [] n = []
items_of (thread ∷ threads) zero = thread.items
items_of (thread ∷ threads) (suc n) = items_of threads n

-- the access with this id: its thread, and its number among the thread's accesses
abbrev pub access_at : List ThreadRun → EventId → Option Access
access_at threads id = slice_get (accesses (items_of threads id.thread)) id.index

-- a is the access with this id
abbrev pub IsAccessOf : List ThreadRun → EventId → Access → Type 0
IsAccessOf threads id a = access_at threads id ≡ Some a

-- what the memory orders see of an access
pub record Event : Type 0 where
  pub id : EventId
  pub kind : AccessKind
  pub locked : Bool
  pub address : ℕ
  pub size : ℕ

-- an access as an event
abbrev pub event : Access → Event
event a = record { id = a.id; kind = a.kind; locked = a.locked; address = a.address; size = a.size }

-- the events among items, in order
abbrev pub events : List Item → List Event
events items = map event (accesses items)

-- a is the event that its id names
abbrev pub IsIn : List ThreadRun → Event → Type 0
IsIn threads a = slice_get (events (items_of threads a.id.thread)) a.id.index ≡ Some a

abbrev pub IsRead : Event → Type 0
IsRead a = a.kind ≡ kind.Read

abbrev pub IsWrite : Event → Type 0
IsWrite a = a.kind ≡ kind.Write

abbrev pub IsLocked : Event → Type 0
IsLocked a = a.locked ≡ true

-- the byte at this address is one of a's
abbrev pub Covers : Event → ℕ → Type 0
Covers a n = (a.address ≤ n) × (n < a.address + a.size)

-- a and b have a byte in common
abbrev pub Overlap : Event → Event → Type 0
Overlap a b = (n : ℕ) × Covers a n × Covers b n

-- access m of a thread's items is a read
abbrev pub ReadAt : List Item → ℕ → Type 0
ReadAt items m = IsSomeAnd (slice_get (events items) m) IsRead

-- access m of a thread's items is a write
abbrev pub WriteAt : List Item → ℕ → Type 0
WriteAt items m = IsSomeAnd (slice_get (events items) m) IsWrite

-- access m of a thread's items is locked
abbrev pub LockedAt : List Item → ℕ → Type 0
LockedAt items m = IsSomeAnd (slice_get (events items) m) IsLocked

-- accesses m and n are a locked read and the locked write after it: the halves of one atomic instruction
abbrev pub LockedPairAt : List Item → ℕ → ℕ → Type 0
LockedPairAt items m n = (n ≡ m + 1) × ReadAt items m × LockedAt items m × WriteAt items n × LockedAt items n

-- how many accesses stand before the item at this place
abbrev pub accesses_before : List Item → ℕ → ℕ
accesses_before items place = length (accesses (take place items))

-- a fence of this kind stands behind access m of a thread and before its access n
pub record FenceBetween (kind : FenceKind) (items : List Item) (m n : ℕ) : Type 0 where
  pub place : ℕ
  pub fence : FenceItem
  pub here : slice_get items place ≡ Some (item.Fence fence)
  pub same : fence.kind ≡ kind
  pub behind : m < accesses_before items place
  pub ahead : accesses_before items place ≤ n
