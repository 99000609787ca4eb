use Rattle.std.proofs.Common.{◌≡◌, ◌++◌, drop}
use Rattle.std.specs.List.{flat_map}
use Rattle.frame_marks.specs.Lists.{kept_by}
use Rattle.frame_marks.proofs.marking.private_slots.Given as goal

abbrev pub invariant-loop-p : goal.invariant-loop-p
invariant-loop-p l =
    l.slots.items ++ flat_map (kept_by l.exposed l.pointerless) (drop l.p-index l.placed) ≡ flat_map
    (kept_by l.exposed l.pointerless) l.placed
