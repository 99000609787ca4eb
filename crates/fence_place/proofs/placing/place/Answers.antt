use Rattle.std.proofs.Common.{◌≤◌, ◌∙◌, ap, sym, subst}
use Rattle.std.specs.List.{flat_map}
use Rattle.fence_place.specs.Fenced.{fenced}
use Rattle.fence_place.proofs.Placed.{fences_keep}
use Rattle.limm_ir.specs.Conditions.{Unset, IsWellMade, IsSelectable}
use Rattle.limm_ir.specs.Costs.{cost_of, step_cost, fenced_cost}
use Rattle.fence_place.proofs.Few.{fences_few}
use Rattle.fence_place.proofs.Selectable.{fences_selectable}
use Rattle.fence_place.proofs.Well.{fences_well}
use Rattle.fence_place.proofs.placing.place.Goals as goal

pub returns-clause-meaning : goal.returns-clause-meaning
returns-clause-meaning c =
    fences_keep c.args.private.now.slots c.args.block.steps c.of.result (c.of.ensures ∙ c.in_ok-steps.ensures ∙ ap (flat_map (fenced c.args.private.now.slots)) c.as_slice.ensures)

pub returns-clause-few : goal.returns-clause-few
returns-clause-few c =
    let same = c.of.ensures ∙ c.in_ok-steps.ensures ∙ ap (flat_map (fenced c.args.private.now.slots)) c.as_slice.ensures in
    subst (λ ys. cost_of step_cost ys ≤ cost_of fenced_cost c.args.block.steps) (sym same) (fences_few c.args.private.now.slots c.args.block.steps)

pub returns-clause-well : goal.returns-clause-well
returns-clause-well c = λ well.
    let same = c.of.ensures ∙ c.in_ok-steps.ensures ∙ ap (flat_map (fenced c.args.private.now.slots)) c.as_slice.ensures in
    subst (λ ys. IsWellMade ys c.args.block.end) (sym same) (fences_well c.args.block.end c.args.private.now.slots c.args.block.steps (λ t. Unset) well)

pub returns-clause-selectable : goal.returns-clause-selectable
returns-clause-selectable c = λ selectable.
    let same = c.of.ensures ∙ c.in_ok-steps.ensures ∙ ap (flat_map (fenced c.args.private.now.slots)) c.as_slice.ensures in
    subst (λ ys. IsSelectable ys c.args.block.end) (sym same) (fences_selectable c.args.block.end c.args.private.now.slots c.args.block.steps selectable)
