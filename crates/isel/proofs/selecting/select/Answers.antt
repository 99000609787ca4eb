use Rattle.std.proofs.Common.{◌≤◌, length, sym, ap, ◌∙◌, subst}
use Rattle.std.specs.List.{AllByRecursion}
use Rattle.limm_ir.specs.Conditions.{Unset}
use Rattle.limm_ir.specs.Costs.{cost_of, step_cost}
use Rattle.isel.specs.Groups.{selected}
use Rattle.isel.specs.Ranges.{HasSmall, Fits}
use Rattle.isel.specs.Selected.{MeansSteps}
use Rattle.a64_block.specs.Barriers.{barriers_in}
use Rattle.a64_block.specs.Conditions.{IsAllocatable}
use Rattle.isel.proofs.Barriers.{selected_barriers}
use Rattle.isel.proofs.Live.{selected_allocatable}
use Rattle.isel.proofs.Costs.{selected_few}
use Rattle.isel.proofs.Small.{block_small}
use Rattle.isel.proofs.Meaning.{selected_means}
use Rattle.isel.proofs.selecting.select.Goals as goal

pub select_each-requires-clause-small : goal.select_each-requires-clause-small
select_each-requires-clause-small c =
    subst (λ xs. AllByRecursion HasSmall xs) (sym c.as_slice.ensures) (block_small c.args.block.now.steps c.args.block.now.end c.requires.well c.requires.small).0

pub select_end-requires : goal.select_end-requires
select_end-requires c = (block_small c.args.block.now.steps c.args.block.now.end c.requires.well c.requires.small).1

pub returns-clause-meaning : goal.returns-clause-meaning
returns-clause-meaning c =
    let xs = c.args.block.now.steps in
    let end = c.args.block.now.end in
    let same = c.of.ensures ∙ c.in_ok-words.ensures.words ∙ ap (selected (λ t. Unset)) c.as_slice.ensures in
    let fits = subst (λ l. AllByRecursion Fits l) c.as_slice.ensures c.in_ok-words.ensures.fit in
    subst (λ ws. MeansSteps xs end ws c.select_end.result) (sym same)
    (subst (λ fin. MeansSteps xs end (selected (λ t. Unset) xs) fin) (sym c.select_end.ensures) (selected_means xs end c.requires.well c.requires.once fits))

pub returns-clause-allocatable : goal.returns-clause-allocatable
returns-clause-allocatable c =
    let xs = c.args.block.now.steps in
    let end = c.args.block.now.end in
    let same = c.of.ensures ∙ c.in_ok-words.ensures.words ∙ ap (selected (λ t. Unset)) c.as_slice.ensures in
    subst (λ ws. IsAllocatable ws c.select_end.result) (sym same) (subst (λ fin. IsAllocatable (selected (λ t. Unset) xs) fin) (sym c.select_end.ensures) (selected_allocatable xs end c.requires))

pub returns-clause-few : goal.returns-clause-few
returns-clause-few c =
    let xs = c.args.block.now.steps in
    let same = c.of.ensures ∙ c.in_ok-words.ensures.words ∙ ap (selected (λ t. Unset)) c.as_slice.ensures in
    subst (λ ws. length ws ≤ cost_of step_cost xs) (sym same) (selected_few (λ t. Unset) xs)

pub returns-clause-barriers : goal.returns-clause-barriers
returns-clause-barriers c =
    let xs = c.args.block.now.steps in
    ap barriers_in (c.of.ensures ∙ c.in_ok-words.ensures.words ∙ ap (selected (λ t. Unset)) c.as_slice.ensures) ∙ selected_barriers (λ t. Unset) xs
