-- What is reached along edges, and from which of several sources first.
use Rattle.std.specs.Prelude.{◌≡◌, ◌≤◌, ◌<◌, ◌↔◌, ◌⊎◌, ℕ, List, [], ◌∷◌, Option, Some, None, sum_by}
use Rattle.ev_graph.specs.Places.{StandsIn, IsDistinct}
use Rattle.ev_graph.specs.Cycle.{Chain}

-- a node is reached: it is a start, or an edge leads to it from a node that is reached
pub data Reached (successors : ℕ → List ℕ) (starts : List ℕ) : ℕ → Type 0 where
  start : {a : ℕ} → StandsIn starts a → Reached successors starts a
  step : {a b : ℕ} → Reached successors starts a → StandsIn (successors a) b → Reached successors starts b

-- the list has each node that is reached once, and nothing else
pub record IsReachedSet (successors : ℕ → List ℕ) (starts nodes : List ℕ) : Type 0 where
  pub only : (a : ℕ) → StandsIn nodes a → Reached successors starts a
  pub each : (a : ℕ) → Reached successors starts a → StandsIn nodes a
  pub once : IsDistinct nodes

-- some nodes that are reached weigh more than the limit, each counted once
pub record IsOver (successors : ℕ → List ℕ) (starts : List ℕ) (weight : ℕ → ℕ) (limit : ℕ) : Type 0 where
  pub some : List ℕ
  pub reached : (a : ℕ) → StandsIn some a → Reached successors starts a
  pub once : IsDistinct some
  pub more : limit < sum_by weight some

-- a is reached from s
abbrev pub From : (ℕ → List ℕ) → ℕ → ℕ → Type 0
From successors a s = Reached successors (s ∷ []) a

-- the first of the list of which P holds, or none where it holds of none
abbrev pub IsFirst : (ℕ → Type 0) → List ℕ → Option ℕ → Type 0
IsFirst P [] found = found ≡ None
IsFirst P (k ∷ ks) found = (P k × (found ≡ Some k)) ⊎ ((P k → ⊥) × IsFirst P ks found)

-- an edge leads from a to b
abbrev pub Leads : (ℕ → List ℕ) → ℕ → ℕ → Type 0
Leads successors a b = StandsIn (successors a) b

-- a is a start, or finitely many edges lead to it from one
pub data HasPath (successors : ℕ → List ℕ) (starts : List ℕ) (a : ℕ) : Type 0 where
  here : StandsIn starts a → HasPath successors starts a
  along : (s : ℕ) (via : List ℕ) → StandsIn starts s → Chain (Leads successors) s via a → HasPath successors starts a

-- what is reached has a path, and what has a path is reached
abbrev pub ReachedByPath : Type 0
ReachedByPath = (successors : ℕ → List ℕ) (starts : List ℕ) (a : ℕ) → Reached successors starts a ↔ HasPath successors starts a

-- what is reached is not over a limit that all of it is within
abbrev pub OverExcludesWithin : Type 0
OverExcludesWithin = (successors : ℕ → List ℕ) (starts : List ℕ) (weight : ℕ → ℕ) (limit : ℕ) (nodes : List ℕ) → IsReachedSet successors starts nodes → sum_by weight nodes ≤ limit → IsOver successors starts weight limit → ⊥
