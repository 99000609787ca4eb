-- What a caller of this crate cites.
use Rattle.std.proofs.Common.{ℕ, List}
use Rattle.ev_graph.specs.Places.{Earlier}
use Rattle.ev_graph.specs.Cycle.{Chain}
use Rattle.topo.specs.declared.edge.Edge.{Edge}
use Rattle.topo.specs.Order.{Leads, HasCycle, IsOrder, IsCycle, IsAcyclic}
use Rattle.topo.proofs.Ends as ends

-- an order leaves no cycle
pub no_cycle : (n : ℕ) (edges : List Edge) (order : List ℕ) → IsOrder n edges order → IsAcyclic edges
no_cycle = ends.order_excludes_cycle

-- in an order, a number stands before each that it leads to by edges
pub earlier : (n : ℕ) (edges : List Edge) (order : List ℕ) → IsOrder n edges order → (a : ℕ) (via : List ℕ) (b : ℕ) → Chain (Leads edges) a via b → Earlier order a b
earlier = ends.earlier_along

-- a cycle is a way from a number back to itself
pub way_round : (edges : List Edge) (cycle : List ℕ) → IsCycle edges cycle → HasCycle edges
way_round = ends.has_cycle

-- edges with a cycle are not acyclic
pub cycle_excludes : (edges : List Edge) → HasCycle edges → IsAcyclic edges → ⊥
cycle_excludes = ends.cycle_excludes
