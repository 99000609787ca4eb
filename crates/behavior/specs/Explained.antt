-- The run of the source by which a run of the target is explained.
use Rattle.std.specs.Prelude.{◌≡◌, ℕ, ◌<◌, ◌≤◌, List, ◌++◌, length}
use Rattle.ev_graph.specs.declared.events.Item.{Item}
use Rattle.ev_graph.specs.declared.events.End.{End}
use Rattle.behavior.specs.Tree.{Tree, Gives, Begins, Acts, Next}
use Rattle.behavior.specs.Run.{Run}
use Rattle.behavior.specs.Seen.{given, counted}

-- a run of the source on the same values as `made`, with as many accesses, inputs and outputs, and with this end
pub record IsOnSame {S : Type 0} (step : S → Tree (Next S)) (s : S) (made : List Item) (end : End) (items : List Item) : Type 0 where
  pub begun : ℕ
  pub run : Run step s items end begun
  pub values : given items ≡ given made
  pub many : counted items ≡ counted made

-- the run among these that has the fewest items
pub record Explains {S : Type 0} (step : S → Tree (Next S)) (s : S) (made : List Item) (end : End) (items : List Item) : Type 0 where
  pub is_on_same : IsOnSame step s made end items
  pub fewest : (other : List Item) → IsOnSame step s made end other → length items ≤ length other

-- Each value that comes from outside shows in the items, so what a tree does is decided by the values of reads and inputs.
abbrev pub IsOpen : {R : Type 0} → Tree R → Type 0
IsOpen (Gives r) = Unit {0}
IsOpen (Begins t) = IsOpen t
IsOpen (Acts range made next) =
    ((v w : ℕ) → v < range → w < range → (x y : List ℕ) → given (made v) ++ x ≡ given (made w) ++ y → v ≡ w)
    × ((v : ℕ) → IsOpen (next v))
