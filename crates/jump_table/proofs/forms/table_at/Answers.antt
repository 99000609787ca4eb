use Rattle.std.proofs.Common.{subst}
use Rattle.code_at.specs.Code.{program_of}
use Rattle.jump_table.specs.Steps.{MayBegin}
use Rattle.jump_table.proofs.StepLemmas.{one_step}
use Rattle.jump_table.proofs.FormLemmas.{first_stands, told_none}
use Rattle.jump_table.proofs.forms.table_at.Goals as goal

pub returns-in_err-step : goal.returns-in_err-step
returns-in_err-step c =
    let program = program_of c.args.elf.now in
    told_none program c.args.address c.from_residual.result c.from_residual.ensures (λ table is.
    let first = first_stands program c.args.address table is in
    c.in_err-step.ensures (record { instr = first.instr; end = first.end }) first.stands)

pub returns-in_err-found : goal.returns-in_err-found
returns-in_err-found c =
    let program = program_of c.args.elf.now in
    let step = c.in_ok-step.step in
    told_none program c.args.address c.from_residual-in_err-found.result c.from_residual-in_err-found.ensures (λ table is.
    let first = first_stands program c.args.address table is in
    let same = one_step program c.args.address first.instr step.instr first.end step.end first.stands c.in_ok-step.ensures in
    c.in_err-found.ensures first.form (subst (λ i. MayBegin i first.form) same.0 first.begins))
