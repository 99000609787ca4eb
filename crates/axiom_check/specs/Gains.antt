-- What a list gains: elements told by a property.
use Rattle.std.specs.Prelude.{◌≡◌, ◌<◌, ◌↔◌, ℕ, List, Some, slice_get, ◌⊎◌}
use Rattle.ev_graph.specs.Places.{StandsIn}

-- the new list has what the old one has, and what has the property; nothing else
pub record Gains {X : Type 0} (P : X → Type 0) (old new : List X) : Type 0 where
  pub told : (x : X) → StandsIn new x ↔ (StandsIn old x ⊎ P x)

-- what one of the first k elements makes
abbrev pub Below : {I X : Type 0} → List I → (ℕ → I → X → Type 0) → ℕ → X → Type 0
Below {I} {X} ys F k x = (i : ℕ) × (y : I) × (i < k) × (slice_get ys i ≡ Some y) × F i y x

-- what one of the numbers below n makes
abbrev pub BelowNumber : {X : Type 0} → (ℕ → X → Type 0) → ℕ → X → Type 0
BelowNumber {X} F n x = (t : ℕ) × (t < n) × F t x
