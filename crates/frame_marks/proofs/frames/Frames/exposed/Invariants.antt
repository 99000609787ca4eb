use Rattle.std.proofs.Common.{◌≡◌, ◌++◌, drop}
use Rattle.std.specs.List.{filter}
use Rattle.frame_marks.specs.Lists.{is_exposed}
use Rattle.frame_marks.proofs.frames.Frames.exposed.Given as goal

abbrev pub invariant-loop-function : goal.invariant-loop-function
invariant-loop-function l =
    l.some.items ++ filter (is_exposed l.self l.placed) (drop l.function-index l.functions) ≡ filter
    (is_exposed l.self l.placed) l.functions
