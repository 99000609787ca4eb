use Rattle.code_at.specs.Code.{program_of}
use Rattle.jump_table.specs.Instructions.{copy}
use Rattle.jump_table.specs.Steps.{MakesCopy}
use Rattle.jump_table.proofs.StepLemmas.{finds_none, one_step}
use Rattle.jump_table.proofs.steps.copy_at.Goals as goal

pub returns-in_err-step : goal.returns-in_err-step
returns-in_err-step c =
    finds_none (MakesCopy (program_of c.args.elf.now) c.args.address c.args.width c.args.from) c.from_residual.result c.from_residual.ensures
    (λ found is. c.in_err-step.ensures (record { instr = copy c.args.width found.index c.args.from; end = found.end }) is)

pub returns-in_err-index : goal.returns-in_err-index
returns-in_err-index c =
    let program = program_of c.args.elf.now in
    let step = c.in_ok-step.step in
    finds_none (MakesCopy program c.args.address c.args.width c.args.from) c.from_residual-in_err-index.result
    c.from_residual-in_err-index.ensures (λ found is.
    let makes = copy c.args.width found.index c.args.from in
    let same = one_step program c.args.address step.instr makes step.end found.end c.in_ok-step.ensures is in
    c.in_err-index.ensures found.index same.0)
