use Rattle.code_at.specs.Code.{program_of}
use Rattle.jump_table.specs.Pattern.{Begins}
use Rattle.jump_table.proofs.StepLemmas.{finds_none}
use Rattle.jump_table.proofs.FormLemmas.{begun_copied, copied_copy, copied_base, begins_copied}
use Rattle.jump_table.proofs.forms.copied.Goals as goal

pub returns-then-found-eq-RSP : goal.returns-then-found-eq-RSP
returns-then-found-eq-RSP c = λ table is.
    let found = c.args.found in
    let rest = begun_copied (program_of c.args.elf.now) c.args.first c.args.second found.width found.register found.bound c.requires.narrow
    c.requires.stands table is in
    rest.free c.if-found-eq-RSP.true

pub returns-in_err-third : goal.returns-in_err-third
returns-in_err-third c =
    let program = program_of c.args.elf.now in
    let found = c.args.found in
    finds_none (Begins program c.args.first) c.from_residual.result c.from_residual.ensures (λ table is.
    let rest = begun_copied program c.args.first c.args.second found.width found.register found.bound c.requires.narrow c.requires.stands table is in
    c.in_err-third.ensures rest.third rest.branches)

pub returns-in_err-copy : goal.returns-in_err-copy
returns-in_err-copy c =
    let program = program_of c.args.elf.now in
    let found = c.args.found in
    finds_none (Begins program c.args.first) c.from_residual-in_err-copy.result c.from_residual-in_err-copy.ensures (λ table is.
    let rest = begun_copied program c.args.first c.args.second found.width found.register found.bound c.requires.narrow c.requires.stands table is in
    c.in_err-copy.ensures (record { index = rest.r; end = rest.jump })
    (copied_copy program c.args.second found.width found.register found.bound table is.target rest c.in_ok-third.third c.in_ok-third.ensures))

pub returns-in_err-base : goal.returns-in_err-base
returns-in_err-base c =
    let program = program_of c.args.elf.now in
    let found = c.args.found in
    finds_none (Begins program c.args.first) c.from_residual-in_err-base.result c.from_residual-in_err-base.ensures (λ table is.
    let rest = begun_copied program c.args.first c.args.second found.width found.register found.bound c.requires.narrow c.requires.stands table is in
    c.in_err-base.ensures rest.base
    (copied_base program c.args.second found.width found.register found.bound table is.target rest c.in_ok-third.third c.in_ok-third.ensures
    c.in_ok-copy.copy.index c.in_ok-copy.copy.end c.in_ok-copy.ensures))

pub returns : goal.returns
returns c =
    let found = c.args.found in
    begins_copied (program_of c.args.elf.now) c.args.first c.args.second c.in_ok-third.third c.in_ok-copy.copy.end found.width found.register
    c.in_ok-copy.copy.index found.bound c.in_ok-base.base c.requires.narrow c.if-found-eq-RSP.false c.requires.stands
    c.in_ok-third.ensures c.in_ok-copy.ensures c.in_ok-base.ensures
