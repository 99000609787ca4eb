-- The states through which a run passes.
use Rattle.std.specs.Prelude.{ℕ, ◌+◌, List, [], ◌∷◌, ◌++◌}
use Rattle.ev_graph.specs.declared.events.Item.{Item}
use Rattle.ev_graph.specs.declared.events.End.{End}
use Rattle.ev_graph.specs.declared.events.End.TheVariants.{Running}
use Rattle.behavior.specs.Tree.{Tree, Path, Cut, At, Next, Goes, Stops}

-- A run from a state, as `Run` has it, with the states from which its steps were taken, the last of which may be cut.
pub data Passes {S : Type 0} (step : S → Tree (Next S)) : S → List S → List Item → End → ℕ → Type 0 where
  cut-here : {s : S} {items : List Item} {n : ℕ} → Path (step s) items Cut n → Passes step s (s ∷ []) items Running n
  stops-here : {s : S} {items : List Item} {end : End} {n : ℕ} → Path (step s) items (At (Stops end)) n → Passes step s (s ∷ []) items end n
  passes-on : {s t : S} {states : List S} {items rest : List Item} {end : End} {n m : ℕ}
      → Path (step s) items (At (Goes t)) n → Passes step t states rest end m → Passes step s (s ∷ states) (items ++ rest) end (n + m)
