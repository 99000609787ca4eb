-- Texts in parts.
use Rattle.std.specs.Prelude.{ℕ, List, [], ◌==◌, Option, Some, None}
use Rattle.std.specs.List.{slice_split}
use Rattle.std.specs.Borrow.{Bor}

-- the parts of a text round the bytes of this value; one part, the text itself, where there is no such byte
abbrev pub parts_at : ℕ → List ℕ → List (List ℕ)
parts_at separator text = slice_split (λ byte. byte == separator) text

-- the same where there is a text, and else none
abbrev pub parts_of : ℕ → Option (Bor (List ℕ)) → List (List ℕ)
parts_of separator None = []
parts_of separator (Some text) = parts_at separator text.now
