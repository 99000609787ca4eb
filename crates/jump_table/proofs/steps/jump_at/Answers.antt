use Rattle.std.proofs.Common.{subst}
use Rattle.elf_read.specs.Elf.{parts_of}
use Rattle.code_at.specs.Code.{program_of}
use Rattle.jump_table.specs.Instructions.{jump_through}
use Rattle.jump_table.specs.Pattern.{Jumps, IsIndexed}
use Rattle.jump_table.proofs.StepLemmas.{finds_none, one_step, one_base, refuted}
use Rattle.jump_table.proofs.steps.jump_at.Goals as goal

pub returns-in_err-step : goal.returns-in_err-step
returns-in_err-step c =
    finds_none (Jumps (program_of c.args.elf.now) c.args.address c.args.index c.args.bound) c.from_residual.result c.from_residual.ensures
    (λ base is. c.in_err-step.ensures (record { instr = jump_through c.args.index is.offset; end = is.end }) is.stands)

pub returns-in_err-base : goal.returns-in_err-base
returns-in_err-base c =
    let program = program_of c.args.elf.now in
    let step = c.in_ok-step.step in
    finds_none (Jumps program c.args.address c.args.index c.args.bound) c.from_residual-in_err-base.result c.from_residual-in_err-base.ensures
    (λ base is.
    let jump = jump_through c.args.index is.offset in
    let same = one_step program c.args.address step.instr jump step.end is.end c.in_ok-step.ensures is.stands in
    c.in_err-base.ensures base (record { offset = is.offset; is = same.0; displaced = is.is }))

pub returns-else-is_indexed : goal.returns-else-is_indexed
returns-else-is_indexed c = λ base is.
    let step = c.in_ok-step.step in
    let same = one_base (program_of c.args.elf.now) c.args.address step.instr step.end c.args.index c.args.bound base c.in_ok-base.base
    c.in_ok-step.ensures is c.in_ok-base.ensures in
    refuted c.if-is_indexed.false c.is_indexed.ensures
    (subst (λ b. IsIndexed (parts_of c.args.elf.now) b c.args.index c.args.bound) same is.indexed)
