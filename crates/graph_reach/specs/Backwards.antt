-- Edges turned round.
use Rattle.std.specs.Prelude.{◌↔◌, ℕ, List, [], ◌∷◌, map, Vec, if◌then◌else◌, ◌==◌}
use Rattle.ev_graph.specs.Places.{StandsIn}
use Rattle.graph_reach.specs.Reach.{From}

-- the elements of each vector
abbrev pub lists_of : {X Z : Type 0} → List (Vec X Z) → List (List X)
lists_of vecs = map (λ vec. vec.items) vecs

-- the list that stands beside a node, where the node is there
abbrev pub row_beside : List (ℕ × List ℕ) → ℕ → List ℕ
row_beside [] node = []
row_beside (pair ∷ pairs) node = if node == pair.0 then pair.1 else row_beside pairs node

-- each node weighs 1
abbrev pub one_each : List (ℕ × List ℕ) → ℕ → ℕ
one_each pairs node = 1

-- back has the edges between the nodes turned round, and no others
pub record IsTurned (successors : ℕ → List ℕ) (nodes : List ℕ) (back : ℕ → List ℕ) : Type 0 where
  pub from : (a b : ℕ) → StandsIn (back b) a → StandsIn nodes a
  pub to : (a b : ℕ) → StandsIn (back b) a → StandsIn nodes b
  pub only : (a b : ℕ) → StandsIn (back b) a → StandsIn (successors a) b
  pub each : (a b : ℕ) → StandsIn nodes a → StandsIn nodes b → StandsIn (successors a) b → StandsIn (back b) a

-- edges from the nodes lead to nodes alone
abbrev pub IsClosed : (ℕ → List ℕ) → List ℕ → Type 0
IsClosed successors nodes = (a b : ℕ) → StandsIn nodes a → StandsIn (successors a) b → StandsIn nodes b

-- among nodes that edges do not leave, a is reached from s exactly where s is reached from a against the edges
abbrev pub ReachedBackwards : Type 0
ReachedBackwards = (successors back : ℕ → List ℕ) (nodes : List ℕ) → IsTurned successors nodes back → IsClosed successors nodes
    → (a s : ℕ) → StandsIn nodes s → From successors a s ↔ (StandsIn nodes a × From back s a)
