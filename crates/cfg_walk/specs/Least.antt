-- The least number with a property.
use Rattle.std.specs.Prelude.{◌<◌, ℕ, Option, Some, None}

-- the least number of which P holds, or none where it holds of none
abbrev pub IsLeast : (ℕ → Type 0) → Option ℕ → Type 0
IsLeast P None = (a : ℕ) → P a → ⊥
IsLeast P (Some a) = P a × ((b : ℕ) → b < a → P b → ⊥)
