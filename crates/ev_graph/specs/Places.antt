-- Lists by the places of their elements.
use Rattle.std.specs.Prelude.{◌≡◌, ◌<◌, ℕ, List, Some, slice_get}

-- x stands at some place of the list
abbrev pub StandsIn : {A : Type 0} → List A → A → Type 0
StandsIn xs x = (i : ℕ) × (slice_get xs i ≡ Some x)

-- nothing stands at two places of the list
abbrev pub IsDistinct : {A : Type 0} → List A → Type 0
IsDistinct {A} xs = (i j : ℕ) (x : A) → slice_get xs i ≡ Some x → slice_get xs j ≡ Some x → i ≡ j

-- a stands at a place before one of b
pub record Earlier {A : Type 0} (xs : List A) (a b : A) : Type 0 where
  pub i : ℕ
  pub j : ℕ
  pub order : i < j
  pub first : slice_get xs i ≡ Some a
  pub second : slice_get xs j ≡ Some b

-- the first list has each element of the second once, and nothing else
pub record HasEachOnce {A : Type 0} (xs ys : List A) : Type 0 where
  pub only : (x : A) → StandsIn xs x → StandsIn ys x
  pub once : IsDistinct xs
  pub each : (x : A) → StandsIn ys x → StandsIn xs x
