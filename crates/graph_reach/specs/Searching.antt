-- What the searches keep true.
use Rattle.std.specs.Prelude.{◌≡◌, ◌≤◌, ◌<◌, ◌+◌, ℕ, List, Some, None, slice_get, length, take, sum_by}
use Rattle.ev_graph.specs.Places.{StandsIn}
use Rattle.graph_reach.specs.Reach.{Reached, IsFirst, From}
use Rattle.graph_reach.specs.Nodes.{Keeps}

-- the successors of the nodes at places from one up to another are there
abbrev pub AreFollowed : (ℕ → List ℕ) → List ℕ → ℕ → ℕ → Type 0
AreFollowed successors nodes from upto = (i a b : ℕ) → from ≤ i → i < upto → slice_get nodes i ≡ Some a → StandsIn (successors a) b → StandsIn nodes b

-- the search from the starts has come to a place, with this much of the limit left
pub record IsSearching (successors : ℕ → List ℕ) (weight : ℕ → ℕ) (starts : List ℕ) (limit : ℕ) (nodes : List ℕ) (place left : ℕ) : Type 0 where
  pub reached : (a : ℕ) → StandsIn nodes a → Reached successors starts a
  pub started : (a : ℕ) → StandsIn starts a → StandsIn nodes a
  pub followed : AreFollowed successors nodes 0 place
  pub within : place ≤ length nodes
  pub spent : left + sum_by weight (take place nodes) ≡ limit

-- nodes were added that the old ones lead to, and those from one place up to another are followed
pub record Spreads (successors : ℕ → List ℕ) (old : List ℕ) (from upto : ℕ) (now : List ℕ) : Type 0 where
  pub kept : Keeps old now
  pub reached : (a : ℕ) → StandsIn now a → Reached successors old a
  pub followed : AreFollowed successors now from upto

-- each node has beside it the first of the sources that reaches it, and nothing else is reached from them
pub record AreFirst (successors : ℕ → List ℕ) (sources nodes first : List ℕ) : Type 0 where
  pub long : length nodes ≡ length first
  pub followed : AreFollowed successors nodes 0 (length nodes)
  pub named : (i a s : ℕ) → slice_get nodes i ≡ Some a → slice_get first i ≡ Some s → IsFirst (From successors a) sources (Some s)
  pub others : (a : ℕ) → (StandsIn nodes a → ⊥) → IsFirst (From successors a) sources None
