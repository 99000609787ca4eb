use Rattle.code_at.specs.Code.{program_of}
use Rattle.jump_table.specs.Instructions.{above}
use Rattle.jump_table.specs.Steps.{GoesAbove}
use Rattle.jump_table.proofs.StepLemmas.{finds_none, one_step, refuted}
use Rattle.jump_table.proofs.steps.above_at.Goals as goal

pub returns-in_err-step : goal.returns-in_err-step
returns-in_err-step c =
    finds_none (GoesAbove (program_of c.args.elf.now) c.args.address) c.from_residual.result c.from_residual.ensures (λ end is.
    c.in_err-step.ensures (record { instr = above is.displacement; end = end }) is.stands)

pub returns-else-is_above : goal.returns-else-is_above
returns-else-is_above c = λ end is.
    let step = c.in_ok-step.step in
    let same = one_step (program_of c.args.elf.now) c.args.address step.instr (above is.displacement) step.end end c.in_ok-step.ensures is.stands in
    refuted c.if-is_above.false c.is_above.ensures (is.displacement, same.0)
