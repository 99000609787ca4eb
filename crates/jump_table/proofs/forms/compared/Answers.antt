use Rattle.std.proofs.Common.{subst}
use Rattle.code_at.specs.Code.{program_of}
use Rattle.jump_table.specs.Pattern.{Jumps, Begins}
use Rattle.jump_table.proofs.StepLemmas.{finds_none, one_end}
use Rattle.jump_table.proofs.FormLemmas.{begun_compared, begins_compared}
use Rattle.jump_table.proofs.forms.compared.Goals as goal

pub returns-in_err-jump : goal.returns-in_err-jump
returns-in_err-jump c =
    let program = program_of c.args.elf.now in
    let found = c.args.found in
    finds_none (Begins program c.args.first) c.from_residual.result c.from_residual.ensures (λ table is.
    let rest = begun_compared program c.args.first c.args.second found.register found.bound found.width c.requires.wide c.requires.stands table is in
    c.in_err-jump.ensures rest.jump rest.branches)

pub returns-in_err-base : goal.returns-in_err-base
returns-in_err-base c =
    let program = program_of c.args.elf.now in
    let found = c.args.found in
    finds_none (Begins program c.args.first) c.from_residual-in_err-base.result c.from_residual-in_err-base.ensures (λ table is.
    let rest = begun_compared program c.args.first c.args.second found.register found.bound found.width c.requires.wide c.requires.stands table is in
    let ends = one_end program c.args.second rest.jump c.in_ok-jump.jump rest.branches c.in_ok-jump.ensures in
    c.in_err-base.ensures rest.base (subst (λ j. Jumps program j found.register found.bound rest.base) ends rest.jumps))

pub returns : goal.returns
returns c =
    let found = c.args.found in
    begins_compared (program_of c.args.elf.now) c.args.first c.args.second c.in_ok-jump.jump found.register found.bound c.in_ok-base.base
    found.width c.requires.wide c.requires.stands c.in_ok-jump.ensures c.in_ok-base.ensures
