-- The pairs of places that an order keeps within a thread, and the first kind of such a pair.
use Rattle.std.specs.Prelude.{◌≡◌, ◌<◌, ◌+◌, ◌↔◌, ℕ, List, [], ◌∷◌, slice_get, Option, Some, None, ◌⊎◌}
use Rattle.ev_graph.specs.declared.events.Access.{Access}
use Rattle.ev_graph.specs.declared.events.Item.{Item}
use Rattle.ev_graph.specs.declared.events.Item.TheVariants as item
use Rattle.ev_graph.specs.declared.events.FenceKind.{FenceKind}
use Rattle.ev_graph.specs.declared.events.FenceItem.{FenceItem}
use Rattle.ev_graph.specs.Events.{accesses_before, event, events, FenceBetween}
use Rattle.order_models.specs.declared.edge.EdgeKind.{EdgeKind}
use Rattle.order_models.specs.Orders.{Order}

-- a and b are the accesses at two places, the first before the second
pub record Ends (items : List Item) (i j : ℕ) (a b : Access) : Type 0 where
  pub order : i < j
  pub first : slice_get items i ≡ Some (item.Access a)
  pub second : slice_get items j ≡ Some (item.Access b)

-- at the places i and j stand accesses that the order keeps, for the reason of this kind
abbrev pub LocalAt : Order → List Item → ℕ → ℕ → EdgeKind → Type 0
LocalAt order items i j kind = (a : Access) × (b : Access) × Ends items i j a b × order kind items (accesses_before items i) (accesses_before items j)

-- the first of the list with this property, where there is one
abbrev pub IsFirst : {K : Type 0} → (K → Type 0) → List K → Option K → Type 0
IsFirst P [] found = found ≡ None
IsFirst P (k ∷ ks) found = (P k × (found ≡ Some k)) ⊎ ((P k → ⊥) × IsFirst P ks found)

-- the first of the order's kinds that the pair at two places has
abbrev pub IsFirstLocal : Order → List EdgeKind → List Item → ℕ → ℕ → Option EdgeKind → Type 0
IsFirstLocal order kinds items i j found = IsFirst (LocalAt order items i j) kinds found

-- a fence of this kind is among the items
pub record HasFence (items : List Item) (kind : FenceKind) : Type 0 where
  pub place : ℕ
  pub fence : FenceItem
  pub here : slice_get items place ≡ Some (item.Fence fence)
  pub same : fence.kind ≡ kind

-- no access is among the items
abbrev pub HasNoAccess : List Item → Type 0
HasNoAccess items = (k : ℕ) (a : Access) → slice_get items k ≡ Some (item.Access a) → ⊥

-- a and b are accesses m and n of the items, with these items between them
pub record IsPair (items : List Item) (m n : ℕ) (a b : Access) (between : List Item) : Type 0 where
  pub first : slice_get (events items) m ≡ Some (event a)
  pub second : slice_get (events items) n ≡ Some (event b)
  pub fences : (kind : FenceKind) → FenceBetween kind items m n ↔ HasFence between kind
  pub next : (n ≡ m + 1) ↔ HasNoAccess between
