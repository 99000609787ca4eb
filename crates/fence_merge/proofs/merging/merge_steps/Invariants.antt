use Rattle.std.proofs.Common.{◌≡◌, ◌++◌, drop}
use Rattle.fence_plan.specs.Gaps.{gaps_from}
use Rattle.fence_merge.specs.Merged.{merged, woven}
use Rattle.fence_merge.specs.Roles.{stations}
use Rattle.fence_merge.proofs.merging.merge_steps.Given as goal

-- what is made, with what the steps to come make, is the whole
abbrev pub invariant-loop-step : goal.invariant-loop-step
invariant-loop-step l =
    let left = drop l.step-index l.steps in
    l.merging.made.items ++ woven l.private.slots left (gaps_from l.merging.before l.merging.fenced (stations l.private.slots left)) ≡ merged l.private.slots l.steps
