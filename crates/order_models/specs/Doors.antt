-- Doors: what an order keeps within a thread, as a list of ways, each between two sides.
use Rattle.std.specs.Prelude.{◌≡◌, ◌<◌, ◌+◌, ℕ, List, [], ◌∷◌, slice_get, Some, IsSomeAnd}
use Rattle.std.specs.List.{AllByRecursion}
use Rattle.ev_graph.specs.declared.events.Access.{Access}
use Rattle.ev_graph.specs.declared.events.FenceItem.{FenceItem}
use Rattle.ev_graph.specs.declared.events.FenceKind.{FenceKind}
use Rattle.ev_graph.specs.declared.events.FenceKind.TheVariants as fence
use Rattle.ev_graph.specs.declared.events.Item.{Item}
use Rattle.ev_graph.specs.declared.events.Item.TheVariants as item
use Rattle.ev_graph.specs.Events.{accesses_before, events, ReadAt, WriteAt, LockedAt, LockedPairAt, FenceBetween}
use Rattle.ev_graph.specs.Places.{StandsIn}
use Rattle.order_models.specs.declared.doors.Door.{Door}
use Rattle.order_models.specs.declared.doors.Opening.{Opening}
use Rattle.order_models.specs.declared.doors.Opening.TheVariants as opening
use Rattle.order_models.specs.declared.doors.Side.{Side}
use Rattle.order_models.specs.declared.doors.Side.TheVariants as side
use Rattle.order_models.specs.declared.edge.EdgeKind.{EdgeKind}
use Rattle.order_models.specs.declared.edge.EdgeKind.TheVariants as edge
use Rattle.order_models.specs.Orders.{Order}
use Rattle.order_models.specs.Local.{Ends}

-- a thread's items have an access m
abbrev pub IsAccessAt : List Item → ℕ → Type 0
IsAccessAt items m = IsSomeAnd (slice_get (events items) m) (λ a. Unit {0})

-- a fence of this kind stands behind just so many accesses of a thread
pub record FenceAfter (kind : FenceKind) (items : List Item) (count : ℕ) : Type 0 where
  pub place : ℕ
  pub fence : FenceItem
  pub here : slice_get items place ≡ Some (item.Fence fence)
  pub same : fence.kind ≡ kind
  pub behind : accesses_before items place ≡ count

-- access m of a thread's items is of the side
abbrev pub IsOfSide : Side → List Item → ℕ → Type 0
IsOfSide side.Reads items m = ReadAt items m
IsOfSide side.Writes items m = WriteAt items m
IsOfSide side.Any items m = IsAccessAt items m
IsOfSide side.Locked items m = LockedAt items m
IsOfSide (side.Before kind) items m = ReadAt items m × FenceAfter kind items (m + 1)
IsOfSide (side.After kind) items m = WriteAt items m × FenceAfter kind items m

-- the opening holds between access m and a later access n of a thread's items
abbrev pub Opens : Opening → List Item → ℕ → ℕ → Type 0
Opens opening.Always items m n = Unit {0}
Opens (opening.Fence kind) items m n = FenceBetween kind items m n
Opens opening.Pair items m n = LockedPairAt items m n

-- the door admits access m before access n of a thread's items
pub record Admits (door : Door) (items : List Item) (m n : ℕ) : Type 0 where
  pub order : m < n
  pub from : IsOfSide door.from items m
  pub to : IsOfSide door.to items n
  pub opening : Opens door.opening items m n

-- accesses stand at the places i and j, and one of the doors admits them
pub record AreAdmitted (doors : List Door) (items : List Item) (i j : ℕ) : Type 0 where
  pub first : Access
  pub second : Access
  pub ends : Ends items i j first second
  pub door : Door
  pub listed : StandsIn doors door
  pub admits : Admits door items (accesses_before items i) (accesses_before items j)

-- what the door admits is ordered, for the door's reason
abbrev pub IsKept : Order → Door → Type 0
IsKept order door = (items : List Item) (m n : ℕ) → Admits door items m n → order door.kind items m n

-- a door with this reason admits access m before access n
abbrev pub IsAdmittedFor : List Door → EdgeKind → List Item → ℕ → ℕ → Type 0
IsAdmittedFor doors kind items m n = (door : Door) × StandsIn doors door × (door.kind ≡ kind) × Admits door items m n

-- the doors admit what the order keeps, and nothing else, for the same reasons
pub record AreDoorsOf (order : Order) (doors : List Door) : Type 0 where
  pub kept : AllByRecursion (IsKept order) doors
  pub each : (kind : EdgeKind) (items : List Item) (m n : ℕ) → m < n → IsAccessAt items m → IsAccessAt items n → order kind items m n
      → IsAdmittedFor doors kind items m n

-- x86-TSO: all but a write before a read; an MFENCE between; a locked access at an end
abbrev pub tso_doors : List Door
tso_doors = record { opening = opening.Always; from = side.Reads; to = side.Any; kind = edge.Ppo }
    ∷ record { opening = opening.Always; from = side.Writes; to = side.Writes; kind = edge.Ppo }
    ∷ record { opening = opening.Fence fence.Mfence; from = side.Any; to = side.Any; kind = edge.Mfence }
    ∷ record { opening = opening.Always; from = side.Locked; to = side.Any; kind = edge.Implied }
    ∷ record { opening = opening.Always; from = side.Any; to = side.Locked; kind = edge.Implied }
    ∷ []

-- the intermediate form: a read before an Frm; writes around an Fww; an Fsc between; a locked pair
abbrev pub limm_doors : List Door
limm_doors = record { opening = opening.Fence fence.Frm; from = side.Reads; to = side.Any; kind = edge.Frm }
    ∷ record { opening = opening.Fence fence.Fww; from = side.Writes; to = side.Writes; kind = edge.Fww }
    ∷ record { opening = opening.Fence fence.Fsc; from = side.Any; to = side.Any; kind = edge.Fsc }
    ∷ record { opening = opening.Pair; from = side.Any; to = side.Any; kind = edge.Rmw }
    ∷ []

-- Armv8: a read before a DMB LD; writes around a DMB ST; a full DMB between; a locked pair
abbrev pub arm_doors : List Door
arm_doors = record { opening = opening.Fence fence.DmbLd; from = side.Reads; to = side.Any; kind = edge.Ld }
    ∷ record { opening = opening.Fence fence.DmbSt; from = side.Writes; to = side.Writes; kind = edge.St }
    ∷ record { opening = opening.Fence fence.DmbFull; from = side.Any; to = side.Any; kind = edge.Dmb }
    ∷ record { opening = opening.Pair; from = side.Any; to = side.Any; kind = edge.Rmw }
    ∷ []
