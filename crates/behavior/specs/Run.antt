-- Runs of a machine, whatever its states are: its step is one instruction's row, a word, or a whole block.
use Rattle.std.specs.Prelude.{ℕ, ◌+◌, List, ◌++◌}
use Rattle.ev_graph.specs.declared.events.Item.{Item}
use Rattle.ev_graph.specs.declared.events.End.{End}
use Rattle.ev_graph.specs.declared.events.End.TheVariants.{Running}
use Rattle.behavior.specs.Tree.{Tree, Path, Cut, At, Next, Goes, Stops}

-- A run from a state, with its items, its end, and how many instructions it has begun: whole steps, and then a part
-- of one. It has the end Running where it is cut, which may be anywhere, also before the first step.
pub data Run {S : Type 0} (step : S → Tree (Next S)) : S → List Item → End → ℕ → Type 0 where
  cuts : {s : S} {items : List Item} {n : ℕ} → Path (step s) items Cut n → Run step s items Running n
  stops : {s : S} {items : List Item} {end : End} {n : ℕ} → Path (step s) items (At (Stops end)) n → Run step s items end n
  goes_on : {s t : S} {items rest : List Item} {end : End} {n m : ℕ}
      → Path (step s) items (At (Goes t)) n → Run step t rest end m → Run step s (items ++ rest) end (n + m)
