use Rattle.std.proofs.Common.{◌≤◌, length, string_bytes}
use Rattle.text_measure.proofs.shape.Shape.text.Given as goal

abbrev pub invariant-pieces : goal.invariant-pieces
invariant-pieces l = length (string_bytes l.text) ≤ 16777216
