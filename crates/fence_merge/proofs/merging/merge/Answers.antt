use Rattle.std.proofs.Common.{◌≤◌, None, false, ◌∙◌, ap, sym, subst, arith}
use Rattle.limm_ir.specs.Costs.{cost_of, step_cost, fenced_cost}
use Rattle.fence_plan.specs.Gaps.{gaps}
use Rattle.fence_merge.specs.Merged.{merged}
use Rattle.fence_merge.specs.Roles.{between, stations, unfenced}
use Rattle.fence_merge.proofs.Counted.{woven_few}
use Rattle.fence_merge.proofs.Followed.{steps_follow}
use Rattle.fence_merge.proofs.Meaning.{merged_keeps}
use Rattle.fence_merge.proofs.Planned.{between-woven, unfenced-woven, merged_placed}
use Rattle.fence_merge.proofs.Unfenced.{well_alike, selectable_alike}
use Rattle.fence_merge.proofs.merging.merge.Goals as goal

pub returns-clause-others : goal.returns-clause-others
returns-clause-others c =
    let private = c.args.private.now.slots in
    let made = c.of.ensures ∙ c.in_ok-steps.ensures ∙ ap (merged private) c.as_slice.ensures in
    ap unfenced made ∙ unfenced-woven private c.args.block.steps (gaps (stations private c.args.block.steps))

pub returns-clause-planned : goal.returns-clause-planned
returns-clause-planned c =
    let private = c.args.private.now.slots in
    let made = c.of.ensures ∙ c.in_ok-steps.ensures ∙ ap (merged private) c.as_slice.ensures in
    ap (between private) made ∙ between-woven private c.args.block.steps None false

pub returns-clause-meaning : goal.returns-clause-meaning
returns-clause-meaning c = λ xs placed.
    let private = c.args.private.now.slots in
    let made = c.of.ensures ∙ c.in_ok-steps.ensures ∙ ap (merged private) c.as_slice.ensures in
    merged_keeps private xs c.of.result (made ∙ merged_placed private xs c.args.block.steps placed)

pub returns-clause-few : goal.returns-clause-few
returns-clause-few c = λ xs placed.
    let private = c.args.private.now.slots in
    let made = c.of.ensures ∙ c.in_ok-steps.ensures ∙ ap (merged private) c.as_slice.ensures in
    let same = made ∙ merged_placed private xs c.args.block.steps placed in
    subst (λ ys. cost_of step_cost ys ≤ cost_of fenced_cost xs) (sym same) (omega (arith, woven_few private xs None false))

pub returns-clause-well : goal.returns-clause-well
returns-clause-well c = λ well.
    let private = c.args.private.now.slots in
    let made = c.of.ensures ∙ c.in_ok-steps.ensures ∙ ap (merged private) c.as_slice.ensures in
    well_alike c.args.block.end c.args.block.steps c.of.result (ap unfenced made ∙ unfenced-woven private c.args.block.steps (gaps (stations private c.args.block.steps))) well

pub returns-clause-selectable : goal.returns-clause-selectable
returns-clause-selectable c = λ selectable.
    let private = c.args.private.now.slots in
    let made = c.of.ensures ∙ c.in_ok-steps.ensures ∙ ap (merged private) c.as_slice.ensures in
    selectable_alike c.args.block.end c.args.block.steps c.of.result (ap unfenced made ∙ unfenced-woven private c.args.block.steps (gaps (stations private c.args.block.steps))) selectable

pub returns-clause-follows : goal.returns-clause-follows
returns-clause-follows c = λ xs placed.
    let private = c.args.private.now.slots in
    let made = c.of.ensures ∙ c.in_ok-steps.ensures ∙ ap (merged private) c.as_slice.ensures in
    steps_follow private xs c.of.result (made ∙ merged_placed private xs c.args.block.steps placed)
