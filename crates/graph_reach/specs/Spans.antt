-- Rows as parts of one list.
use Rattle.std.specs.Prelude.{◌≡◌, ◌≤◌, ℕ, List, map, slice_get, Some, length, slice_range}
use Rattle.graph_reach.specs.declared.rows.Span.{Span}

-- the part of the targets that a span has
abbrev pub part_of : List ℕ → Span → List ℕ
part_of targets span = slice_range targets span.start span.end

-- the parts of the targets that the spans have
abbrev pub rows_in : List ℕ → List Span → List (List ℕ)
rows_in targets spans = map (part_of targets) spans

-- a span lies within the targets
pub record IsSpan (targets : List ℕ) (span : Span) : Type 0 where
  pub ordered : span.start ≤ span.end
  pub within : span.end ≤ length targets

-- each span lies within the targets
abbrev pub AreSpans : List ℕ → List Span → Type 0
AreSpans targets spans = (i : ℕ) (span : Span) → slice_get spans i ≡ Some span → IsSpan targets span
