use Rattle.std.proofs.Common.{ap, sym, subst, ◌∙◌}
use Rattle.std.specs.Prelude.{◌≤◌, sum_by}
use Rattle.limm_ir.specs.Costs.{cost_of, fenced_cost}
use Rattle.lift_alu.specs.Meant.{most_words}
use Rattle.lift.specs.Block.{AreStepsFrom, LiftsBlock, first_of, end_from}
use Rattle.lift.proofs.Recovered.{instructions, block_first}
use Rattle.lift.proofs.block.lift_block.Goals as goal

pub returns-clause-first : goal.returns-clause-first
returns-clause-first c = λ one at.
    let code = c.args.code.now in
    let (ps, are) = instructions code c.args.block c.requires.code c.requires.block in
    c.in_ok-lifted.ensures.first ∙ ap first_of (sym (c.instructions_of.ensures.those ps are)) ∙ block_first code c.args.block one ps at are

pub returns-clause-end : goal.returns-clause-end
returns-clause-end c = λ ps are. c.in_ok-lifted.ensures.end ∙ ap (end_from 0) (sym (c.instructions_of.ensures.those ps are))

pub returns-clause-meaning : goal.returns-clause-meaning
returns-clause-meaning c = λ ps are.
    subst (λ l. LiftsBlock l c.in_ok-lifted.lifted.steps c.in_ok-lifted.lifted.end) (sym (c.instructions_of.ensures.those ps are)) c.in_ok-lifted.ensures.meaning

pub returns-clause-few : goal.returns-clause-few
returns-clause-few c = λ ps are.
    subst (λ l. cost_of fenced_cost c.in_ok-lifted.lifted.steps ≤ sum_by most_words l) (sym (c.instructions_of.ensures.those ps are)) c.in_ok-lifted.ensures.few

pub returns-clause-steps : goal.returns-clause-steps
returns-clause-steps c = λ ps are. subst (λ l. AreStepsFrom 0 l c.in_ok-lifted.lifted.steps) (sym (c.instructions_of.ensures.those ps are)) c.in_ok-lifted.ensures.steps
