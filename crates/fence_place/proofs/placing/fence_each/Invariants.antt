use Rattle.std.proofs.Common.{◌≡◌, take}
use Rattle.std.specs.List.{flat_map}
use Rattle.fence_place.specs.Fenced.{fenced}
use Rattle.fence_place.proofs.placing.fence_each.Given as goal

abbrev pub invariant-loop-step : goal.invariant-loop-step
invariant-loop-step l = l.with.items ≡ flat_map (fenced l.private.slots) (take l.step-index l.steps)
