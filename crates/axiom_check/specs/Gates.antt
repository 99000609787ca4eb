-- The doors of an order as lanes: one for each door and thread.
use Rattle.std.specs.Prelude.{◌≡◌, ◌≤◌, ◌<◌, ◌+◌, ℕ, List, length, Some, slice_get}
use Rattle.ev_graph.specs.declared.events.Access.{Access}
use Rattle.ev_graph.specs.declared.events.EventId.{EventId}
use Rattle.ev_graph.specs.declared.events.FenceItem.{FenceItem}
use Rattle.ev_graph.specs.declared.events.FenceKind.{FenceKind}
use Rattle.ev_graph.specs.declared.events.FenceKind.TheVariants as fence
use Rattle.ev_graph.specs.declared.events.Item.{Item}
use Rattle.ev_graph.specs.declared.events.Item.TheVariants as item
use Rattle.ev_graph.specs.Events.{accesses, accesses_before, LockedPairAt}
use Rattle.order_models.specs.declared.doors.Door.{Door}
use Rattle.order_models.specs.declared.doors.Opening.{Opening}
use Rattle.order_models.specs.declared.doors.Opening.TheVariants as opening
use Rattle.order_models.specs.declared.doors.Side.{Side}
use Rattle.order_models.specs.declared.doors.Side.TheVariants as side
use Rattle.order_models.specs.Doors.{IsOfSide}
use Rattle.axiom_check.specs.declared.lanes.Slot.{Slot}
use Rattle.topo.specs.declared.edge.Edge.{Edge}
use Rattle.ev_graph.specs.declared.execution.ThreadRun.{ThreadRun}
use Rattle.axiom_check.specs.Gains.{Below}
use Rattle.axiom_check.specs.Numbers.{IsEdgeOf}
use Rattle.axiom_check.specs.Bytes.{key, IsOfNumbered}

-- a fence of this kind stands at a place
pub record IsFenceAt (kind : FenceKind) (items : List Item) (place : ℕ) : Type 0 where
  pub fence : FenceItem
  pub here : slice_get items place ≡ Some (item.Fence fence)
  pub same : fence.kind ≡ kind

-- One more than how many accesses stand before the last fence of this kind below a place, of those behind at most n accesses; 0 where there is none.
pub record IsLastBelow (kind : FenceKind) (items : List Item) (below n value : ℕ) : Type 0 where
  pub there : 0 < value → (place : ℕ) × (place < below) × IsFenceAt kind items place × (accesses_before items place ≤ n) × (value ≡ accesses_before items place + 1)
  pub most : (place : ℕ) → place < below → IsFenceAt kind items place → accesses_before items place ≤ n → accesses_before items place + 1 ≤ value

-- the same of all fences before access n
abbrev pub IsLast : FenceKind → List Item → ℕ → ℕ → Type 0
IsLast kind items n value = IsLastBelow kind items (length items) n value

-- for each access, and for the end, the last fence of this kind before it
pub record AreLasts (kind : FenceKind) (items : List Item) (lasts : List ℕ) : Type 0 where
  pub size : length lasts ≡ length (accesses items) + 1
  pub told : (n value : ℕ) → slice_get lasts n ≡ Some value → IsLast kind items n value

-- how far the list of the last fences has come, at a place
pub record IsListing (kind : FenceKind) (items : List Item) (below count value : ℕ) (lasts : List ℕ) : Type 0 where
  pub counted : count ≡ accesses_before items below
  pub size : length lasts ≡ count
  pub last : (n : ℕ) → count ≤ n → IsLastBelow kind items below n value
  pub told : (n v : ℕ) → slice_get lasts n ≡ Some v → IsLast kind items n v

-- the fences that decide whether an access is of the side
abbrev pub kind_of_side : Side → FenceKind
kind_of_side (side.Before kind) = kind
kind_of_side (side.After kind) = kind
kind_of_side _ = fence.Mfence

-- the fences that decide whether the opening holds
abbrev pub kind_of_opening : Opening → FenceKind
kind_of_opening (opening.Fence kind) = kind
kind_of_opening _ = fence.Mfence

-- the place of access n as a target
abbrev pub IsAt : Opening → List Item → ℕ → ℕ → Type 0
IsAt opening.Always items n place = place ≡ n + 1
IsAt (opening.Fence kind) items n place = IsLast kind items n place
IsAt opening.Pair items n place = ⊥

-- the slot of the access with an id at a place of a lane of its thread
abbrev pub IsSlotAt : List Access → EventId → ℕ → ℕ → Slot → Type 0
IsSlotAt all id tag place slot = IsOfNumbered all id (λ n b s. s ≡ record { key = key b.id.thread tag place; event = n }) slot

-- the slot of access m of a thread as a source of door k
abbrev pub IsGateSource : List Access → List Item → Door → ℕ → ℕ → Access → Slot → Type 0
IsGateSource all items door k m a slot = IsOfSide door.from items m × IsSlotAt all a.id (16 + k) (m + 2) slot

-- the slot of access m of a thread as a target of door k
abbrev pub IsGateTarget : List Access → List Item → Door → ℕ → ℕ → Access → Slot → Type 0
IsGateTarget all items door k m a slot = IsOfSide door.to items m × ((place : ℕ) × IsAt door.opening items m place × IsSlotAt all a.id (16 + k) place slot)

-- the lists of last fences that decide a door of a thread
pub record AreGate (items : List Item) (door : Door) (from to opening : List ℕ) : Type 0 where
  pub from_lasts : AreLasts (kind_of_side door.from) items from
  pub to_lasts : AreLasts (kind_of_side door.to) items to
  pub opening_lasts : AreLasts (kind_of_opening door.opening) items opening

-- the door is told by sides and places
abbrev pub IsWide : Opening → Type 0
IsWide opening.Pair = ⊥
IsWide _ = Unit {0}

-- the edge of accesses m and m + 1 of a thread, where the door admits halves of atomic instructions and they are one
abbrev pub IsPairEdge : List Access → List Item → Door → ℕ → Access → Edge → Type 0
IsPairEdge all items door m a edge = (b : Access) × (slice_get (accesses items) (m + 1) ≡ Some b) × IsOfSide door.from items m × IsOfSide door.to items (m + 1)
    × LockedPairAt items m (m + 1) × IsEdgeOf all a.id b.id edge

-- the slots of a thread's accesses as sources of door k, which is told by sides and places
abbrev pub IsDoorSource : List Access → List Item → ℕ → Door → Slot → Type 0
IsDoorSource all items k door slot = IsWide door.opening × Below (accesses items) (IsGateSource all items door k) (length (accesses items)) slot

-- the same as targets
abbrev pub IsDoorTarget : List Access → List Item → ℕ → Door → Slot → Type 0
IsDoorTarget all items k door slot = IsWide door.opening × Below (accesses items) (IsGateTarget all items door k) (length (accesses items)) slot

-- the edges of a thread's accesses by a door that admits halves of atomic instructions
abbrev pub IsDoorEdge : List Access → List Item → ℕ → Door → Edge → Type 0
IsDoorEdge all items k door edge = (door.opening ≡ opening.Pair) × Below (accesses items) (IsPairEdge all items door) (length (accesses items)) edge

-- what all doors make of a thread
abbrev pub IsThreadSource : List Access → List Door → ℕ → ThreadRun → Slot → Type 0
IsThreadSource all doors t thread slot = Below doors (IsDoorSource all thread.items) (length doors) slot

abbrev pub IsThreadTarget : List Access → List Door → ℕ → ThreadRun → Slot → Type 0
IsThreadTarget all doors t thread slot = Below doors (IsDoorTarget all thread.items) (length doors) slot

abbrev pub IsThreadEdge : List Access → List Door → ℕ → ThreadRun → Edge → Type 0
IsThreadEdge all doors t thread edge = Below doors (IsDoorEdge all thread.items) (length doors) edge
