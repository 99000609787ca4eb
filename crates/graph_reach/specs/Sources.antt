-- Nodes with their sources.
use Rattle.std.specs.Prelude.{ℕ, List, [], ◌∷◌, Option, Some, None, if◌then◌else◌, ◌==◌}

-- the source that stands beside a node, where the node is there
abbrev pub source_of : List (ℕ × ℕ) → ℕ → Option ℕ
source_of [] node = None
source_of (pair ∷ pairs) node = if node == pair.0 then Some pair.1 else source_of pairs node
