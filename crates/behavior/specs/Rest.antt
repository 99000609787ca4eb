-- What stands next where a run is cut.
use Rattle.std.specs.Prelude.{◌≡◌, ◌<◌, ◌⊎◌, ◌↔◌, ℕ, suc, List, [], ◌++◌}
use Rattle.ev_graph.specs.declared.events.Item.{Item}
use Rattle.ev_graph.specs.declared.events.End.{End}
use Rattle.ev_graph.specs.declared.events.End.TheVariants.{Running}
use Rattle.behavior.specs.Tree.{Tree, Gives, Begins, Acts, Next, Goes, Stops}
use Rattle.behavior.specs.Run.{Run}

-- A run from a state has made these items and begun so many instructions, and the tree is what stands next: what is left
-- of the step that it is in. A state to which a step has come and the step from there stand at one place of the run.
pub data ComesTo {S : Type 0} (step : S → Tree (Next S)) (s : S) : List Item → ℕ → Tree (Next S) → Type 0 where
  at-start : ComesTo step s [] 0 (step s)
  past-begin : {items : List Item} {n : ℕ} {t : Tree (Next S)} → ComesTo step s items n (Begins t) → ComesTo step s items (suc n) t
  past-act : {items : List Item} {n : ℕ} {range : ℕ} {made : ℕ → List Item} {next : ℕ → Tree (Next S)}
      (value : ℕ) → value < range → ComesTo step s items n (Acts range made next) → ComesTo step s (items ++ made value) n (next value)
  at-state : {items : List Item} {n : ℕ} {t : S} → ComesTo step s items n (Gives (Goes t)) → ComesTo step s items n (step t)

-- the run is cut, with something next, or has come to its end
abbrev pub IsCutOrEnded : {S : Type 0} → (S → Tree (Next S)) → S → List Item → End → ℕ → Type 0
IsCutOrEnded {S} step s items end n =
    ((end ≡ Running) × ((t : Tree (Next S)) × ComesTo step s items n t)) ⊎ ComesTo step s items n (Gives (Stops end))

-- the runs of a machine are just those that are cut with something next, and those that have come to their end
abbrev pub RunsComeTo : {S : Type 0} → (S → Tree (Next S)) → Type 0
RunsComeTo {S} step = (s : S) (items : List Item) (end : End) (n : ℕ) → Run step s items end n ↔ IsCutOrEnded step s items end n
