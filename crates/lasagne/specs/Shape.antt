-- The shapes of commands.
use Rattle.std.specs.Prelude.{◌≢◌, ◌≤◌, ℕ, List, [], ◌∷◌, codes, decimal}

-- how many rounds a made file may have
pub record AreRounds (n : ℕ) : Type 0 where
  pub some : 1 ≤ n
  pub few : n ≤ 20000

-- a command that is served, with the names and the number in it
pub data Shape : Type 0 where
  Translate : (from to : List ℕ) → Shape
  Plan : (from : List ℕ) → Shape
  Try : (rounds : ℕ) → AreRounds rounds → Shape

-- the words of a command
abbrev pub words_of : Shape → List (List ℕ)
words_of (Translate from to) = codes "translate" ∷ from ∷ to ∷ []
words_of (Plan from) = codes "plan" ∷ from ∷ []
words_of (Try rounds are) = codes "try" ∷ decimal rounds ∷ []

-- the words are those of no command
abbrev pub HasNoShape : List (List ℕ) → Type 0
HasNoShape words = (shape : Shape) → words ≢ words_of shape
