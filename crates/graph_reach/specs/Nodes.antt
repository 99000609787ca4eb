-- Nodes that are added behind those that are there.
use Rattle.std.specs.Prelude.{◌≡◌, ◌⊎◌, ℕ, List, Some, slice_get}
use Rattle.ev_graph.specs.Places.{StandsIn}

-- those that were there keep their places
abbrev pub Keeps : List ℕ → List ℕ → Type 0
Keeps old now = (i a : ℕ) → slice_get old i ≡ Some a → slice_get now i ≡ Some a

-- the node is there now, and nothing else has come
pub record AddsOne (old : List ℕ) (node : ℕ) (now : List ℕ) : Type 0 where
  pub kept : Keeps old now
  pub there : StandsIn now node
  pub only : (a : ℕ) → StandsIn now a → StandsIn old a ⊎ (node ≡ a)

-- all of these nodes are there now, and nothing else has come
pub record Adds (old more now : List ℕ) : Type 0 where
  pub kept : Keeps old now
  pub there : (a : ℕ) → StandsIn more a → StandsIn now a
  pub only : (a : ℕ) → StandsIn now a → StandsIn old a ⊎ StandsIn more a
