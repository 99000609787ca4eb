use Rattle.std.proofs.Common.{◌≡◌, ◌++◌, drop}
use Rattle.std.specs.List.{filter}
use Rattle.frame_marks.specs.Lists.{is_pointerless}
use Rattle.frame_marks.proofs.frames.Frames.pointerless.Given as goal

abbrev pub invariant-loop-function : goal.invariant-loop-function
invariant-loop-function l =
    l.some.items ++ filter (is_pointerless l.self l.placed) (drop l.function-index l.functions) ≡ filter
    (is_pointerless l.self l.placed) l.functions
