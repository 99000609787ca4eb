use Rattle.x64_syntax.specs.declared.operand.Width.TheVariants as width
use Rattle.code_at.specs.Code.{program_of}
use Rattle.jump_table.specs.Instructions.{compare}
use Rattle.jump_table.specs.Steps.{BoundsAt}
use Rattle.jump_table.proofs.StepLemmas.{finds_none, one_step}
use Rattle.jump_table.proofs.steps.bound_at.Goals as goal

pub returns-in_err-step : goal.returns-in_err-step
returns-in_err-step c =
    finds_none (BoundsAt (program_of c.args.elf.now) c.args.address c.args.register) c.from_residual.result c.from_residual.ensures
    (λ found is. c.in_err-step.ensures (record { instr = compare width.Long c.args.register found.number; end = found.end }) is)

pub returns-in_err-number : goal.returns-in_err-number
returns-in_err-number c =
    let program = program_of c.args.elf.now in
    let step = c.in_ok-step.step in
    finds_none (BoundsAt program c.args.address c.args.register) c.from_residual-in_err-number.result c.from_residual-in_err-number.ensures
    (λ found is.
    let bounds = compare width.Long c.args.register found.number in
    let same = one_step program c.args.address step.instr bounds step.end found.end c.in_ok-step.ensures is in
    c.in_err-number.ensures found.number same.0)
