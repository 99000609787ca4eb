-- Several steps of a machine as one.
use Rattle.std.specs.Prelude.{ℕ, ◌<◌, List}
use Rattle.ev_graph.specs.declared.events.Item.{Item}
use Rattle.behavior.specs.Tree.{Tree, Gives, Begins, Acts, Next, Goes}

-- The block goes on where the step comes to a next state, by whole steps from there, and ends where it likes.
pub data Unfolds {S : Type 0} (step : S → Tree (Next S)) : Tree (Next S) → Tree (Next S) → Type 0 where
  block-ends : {next : Next S} → Unfolds step (Gives next) (Gives next)
  block-goes : {s : S} {block : Tree (Next S)} → Unfolds step (step s) block → Unfolds step (Gives (Goes s)) block
  block-begins : {t block : Tree (Next S)} → Unfolds step t block → Unfolds step (Begins t) (Begins block)
  block-acts : {range : ℕ} {made : ℕ → List Item} {next blocks : ℕ → Tree (Next S)}
      → ((v : ℕ) → v < range → Unfolds step (next v) (blocks v)) → Unfolds step (Acts range made next) (Acts range made blocks)
