-- Graphs by rows: row n has the nodes that edges lead to from node n.
use Rattle.std.specs.Prelude.{ℕ, List, [], slice_get, unwrap_or}

-- the row of a node; empty where the node has none
abbrev pub row_of : List (List ℕ) → ℕ → List ℕ
row_of rows node = unwrap_or (slice_get rows node) []

-- each node weighs 1
abbrev pub one : List (List ℕ) → ℕ → ℕ
one rows node = 1
