-- Orders and cycles of edges between numbers.
use Rattle.std.specs.Prelude.{◌≡◌, ◌<◌, ℕ, List, [], ◌∷◌, Some, slice_get}
use Rattle.ev_graph.specs.Places.{StandsIn, IsDistinct, Earlier}
use Rattle.ev_graph.specs.Cycle.{Chain}
use Rattle.topo.specs.declared.edge.Edge.{Edge}
use Rattle.topo.specs.declared.edge.TopoAnswer.{TopoAnswer}
use Rattle.topo.specs.declared.edge.TopoAnswer.TheVariants.{Order, Cycle}

-- one of the edges leads from a to b
abbrev pub Leads : List Edge → ℕ → ℕ → Type 0
Leads edges a b = StandsIn edges (record { from = a; to = b })

-- a number leads back to itself by finitely many edges, at least one
pub record HasCycle (edges : List Edge) : Type 0 where
  pub first : ℕ
  pub between : List ℕ
  pub round : Chain (Leads edges) first between first

-- no number leads back to itself
abbrev pub IsAcyclic : List Edge → Type 0
IsAcyclic edges = (v : ℕ) (via : List ℕ) → Chain (Leads edges) v via v → ⊥

-- each number below n once and nothing else, so that every edge goes forward
pub record IsOrder (n : ℕ) (edges : List Edge) (order : List ℕ) : Type 0 where
  pub below : (i v : ℕ) → slice_get order i ≡ Some v → v < n
  pub each : (v : ℕ) → v < n → StandsIn order v
  pub once : IsDistinct order
  pub forward : (a b : ℕ) → Leads edges a b → Earlier order a b

-- distinct numbers, at least one: an edge leads from each to the next, and from the last to the first
abbrev pub IsCycle : List Edge → List ℕ → Type 0
IsCycle edges [] = ⊥
IsCycle edges (v ∷ via) = Chain (Leads edges) v via v × IsDistinct (v ∷ via)

-- the answer is an order
abbrev pub IsAnOrder : TopoAnswer → Type 0
IsAnOrder (Order order) = Unit {0}
IsAnOrder (Cycle cycle) = ⊥

-- the answer is a cycle
abbrev pub IsACycle : TopoAnswer → Type 0
IsACycle (Order order) = ⊥
IsACycle (Cycle cycle) = Unit {0}

-- an answer that is an order has this property
abbrev pub OnOrder : TopoAnswer → (List ℕ → Type 0) → Type 0
OnOrder (Order order) P = P order
OnOrder (Cycle cycle) P = Unit {0}

-- an answer that is a cycle has this property
abbrev pub OnCycle : TopoAnswer → (List ℕ → Type 0) → Type 0
OnCycle (Order order) P = Unit {0}
OnCycle (Cycle cycle) P = P cycle

-- where there is an order, there is no cycle
abbrev pub OrderExcludesCycle : Type 0
OrderExcludesCycle = (n : ℕ) (edges : List Edge) (order : List ℕ) → IsOrder n edges order → IsAcyclic edges
