-- Lanes: many pairs told by the places of their ends. A pair goes from a source to each target of its lane from the source's place on.
use Rattle.std.specs.Prelude.{◌≡◌, ◌≤◌, ◌<◌, ◌+◌, ◌/◌, ℕ, List, [], ◌∷◌, Some, slice_get, filter, nat_lt, ◌⊎◌}
use Rattle.ev_graph.specs.Places.{StandsIn, IsDistinct, Earlier}
use Rattle.ev_graph.specs.Cycle.{Chain}
use Rattle.topo.specs.declared.edge.Edge.{Edge}
use Rattle.topo.specs.Order.{Leads, IsOrder}
use Rattle.axiom_check.specs.declared.lanes.Slot.{Slot}

-- the lane of a key
abbrev pub lane_of : ℕ → ℕ
lane_of key = key / 4294967296

-- a is a source, and b a target of the same lane, no earlier
pub record InLanes (sources targets : List Slot) (a b : ℕ) : Type 0 where
  pub source : Slot
  pub target : Slot
  pub source_there : StandsIn sources source
  pub target_there : StandsIn targets target
  pub first : source.event ≡ a
  pub second : target.event ≡ b
  pub same : lane_of source.key ≡ lane_of target.key
  pub order : source.key ≤ target.key

-- the pairs of lanes: those told one by one, and those by the places of their ends
abbrev pub Crosses : List Edge → List Slot → List Slot → ℕ → ℕ → Type 0
Crosses direct sources targets a b = Leads direct a b ⊎ InLanes sources targets a b

-- the keys do not fall
abbrev pub IsRising : List Slot → Type 0
IsRising slots = (i j : ℕ) (s t : Slot) → i ≤ j → slice_get slots i ≡ Some s → slice_get slots j ≡ Some t → s.key ≤ t.key

-- the first place whose key is no less, or the length where there is none
pub record IsFirstAt (slots : List Slot) (key place : ℕ) : Type 0 where
  pub before : (i : ℕ) (s : Slot) → i < place → slice_get slots i ≡ Some s → s.key < key
  pub behind : (i : ℕ) (s : Slot) → place ≤ i → slice_get slots i ≡ Some s → key ≤ s.key

-- the edges of the inner node at a place of the targets: to its event, and to the next node of its lane
abbrev pub IsRung : ℕ → List Slot → ℕ → Slot → Edge → Type 0
IsRung events targets place slot edge = (edge.from ≡ events + place)
    × ((edge.to ≡ slot.event) ⊎ ((edge.to ≡ events + place + 1) × ((next : Slot) × (slice_get targets (place + 1) ≡ Some next) × (lane_of slot.key ≡ lane_of next.key))))

-- the edge of a source: to the node of the first target of its lane from its place on
abbrev pub IsEntry : ℕ → List Slot → ℕ → Slot → Edge → Type 0
IsEntry events targets i source edge = (edge.from ≡ source.event)
    × ((place : ℕ) × (target : Slot) × (edge.to ≡ events + place) × (slice_get targets place ≡ Some target) × IsFirstAt targets source.key place × (lane_of source.key ≡ lane_of target.key))

-- the ends are events or inner nodes
abbrev pub AreBelow : ℕ → List Edge → Type 0
AreBelow n edges = (e : Edge) → StandsIn edges e → (e.from < n) × (e.to < n)

-- the slots are of events
abbrev pub AreOfEvents : ℕ → List Slot → Type 0
AreOfEvents n slots = (s : Slot) → StandsIn slots s → s.event < n

-- the numbers are those of inner nodes
abbrev pub AreInner : ℕ → List ℕ → Type 0
AreInner events [] = Unit {0}
AreInner events (v ∷ via) = (events ≤ v) × AreInner events via

-- A graph whose first nodes are events: its ways from event to event through inner nodes alone are the pairs of R.
pub record IsGraphOf (events nodes : ℕ) (edges : List Edge) (R : ℕ → ℕ → Type 0) : Type 0 where
  pub ends : AreBelow nodes edges
  pub rises : (e : Edge) → StandsIn edges e → events ≤ e.from → events ≤ e.to → e.from < e.to
  pub sound : (a b : ℕ) (via : List ℕ) → a < events → b < events → AreInner events via → Chain (Leads edges) a via b → R a b
  pub complete : (a b : ℕ) → R a b → (via : List ℕ) × Chain (Leads edges) a via b

-- each event once and nothing else, so that every pair goes forward
pub record IsOrderOf (events : ℕ) (R : ℕ → ℕ → Type 0) (order : List ℕ) : Type 0 where
  pub below : (v : ℕ) → StandsIn order v → v < events
  pub each : (v : ℕ) → v < events → StandsIn order v
  pub once : IsDistinct order
  pub forward : (a b : ℕ) → R a b → Earlier order a b

-- an event leads back to itself by pairs
abbrev pub HasRound : (ℕ → ℕ → Type 0) → Type 0
HasRound R = (a : ℕ) × (via : List ℕ) × Chain R a via a

-- the events of an order of the graph, in that order
abbrev pub IsEventsOf : ℕ → List Edge → ℕ → List ℕ → Type 0
IsEventsOf nodes edges events kept = (order : List ℕ) × IsOrder nodes edges order × (kept ≡ filter (λ v. nat_lt v events) order)
