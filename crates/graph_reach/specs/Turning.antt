-- What the turning of edges keeps true: list p has the nodes from which edges lead to node p.
use Rattle.std.specs.Prelude.{◌≡◌, ◌<◌, ◌⊎◌, ℕ, List, Some, slice_get, length}
use Rattle.ev_graph.specs.Places.{StandsIn}
use Rattle.graph_reach.specs.Rows.{row_of}

-- so many lists, with nothing in them
pub record AreEmpty (count : ℕ) (lists : List (List ℕ)) : Type 0 where
  pub long : length lists ≡ count
  pub nothing : (p a : ℕ) → StandsIn (row_of lists p) a → ⊥

-- the node has come into the list at this place, and nothing else into any
pub record AddsAt (old : List (List ℕ)) (place node : ℕ) (now : List (List ℕ)) : Type 0 where
  pub long : length now ≡ length old
  pub there : StandsIn (row_of now place) node
  pub kept : (p a : ℕ) → StandsIn (row_of old p) a → StandsIn (row_of now p) a
  pub only : (p a : ℕ) → StandsIn (row_of now p) a → StandsIn (row_of old p) a ⊎ ((place ≡ p) × (node ≡ a))

-- the node has come into the lists of those of the successors that are among the nodes, and nothing else into any
pub record AddsInto (nodes : List ℕ) (node : ℕ) (successors : List ℕ) (old now : List (List ℕ)) : Type 0 where
  pub long : length now ≡ length old
  pub there : (p b : ℕ) → slice_get nodes p ≡ Some b → StandsIn successors b → StandsIn (row_of now p) node
  pub kept : (p a : ℕ) → StandsIn (row_of old p) a → StandsIn (row_of now p) a
  pub only : (p a : ℕ) → StandsIn (row_of now p) a → StandsIn (row_of old p) a ⊎ ((node ≡ a) × ((b : ℕ) × (slice_get nodes p ≡ Some b) × StandsIn successors b))

-- the edges from the nodes before a place are turned round
pub record TurnedUpTo (successors : ℕ → List ℕ) (nodes : List ℕ) (place : ℕ) (lists : List (List ℕ)) : Type 0 where
  pub long : length lists ≡ length nodes
  pub only : (p a : ℕ) → StandsIn (row_of lists p) a → StandsIn nodes a × ((b : ℕ) × (slice_get nodes p ≡ Some b) × StandsIn (successors a) b)
  pub each : (p b i a : ℕ) → slice_get nodes p ≡ Some b → i < place → slice_get nodes i ≡ Some a → StandsIn (successors a) b → StandsIn (row_of lists p) a
