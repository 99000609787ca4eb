use Rattle.std.proofs.Common.{◌≡◌, ◌++◌, drop}
use Rattle.std.specs.Prelude.{flat_map}
use Rattle.fence_place.specs.Marked.{marked}
use Rattle.fence_plan.specs.Gaps.{gaps_from}
use Rattle.carry_spec.specs.Plan.{block_gaps, shared_slots, stations_of}
use Rattle.translate_core.proofs.plan.plan_block.Given as goal

-- what is planned, with what is planned of the instructions to come, is the whole
abbrev pub invariant-loop-placed : goal.invariant-loop-placed
invariant-loop-placed l =
    let private = marked l.private.slots in
    let left = drop l.placed-index l.instructions in
    (l.planning.slots.items ++ shared_slots private left ≡ shared_slots private l.instructions)
    × (l.planning.gaps.items ++ gaps_from l.planning.before l.planning.fenced (flat_map (stations_of private) left) ≡ block_gaps private l.instructions)
