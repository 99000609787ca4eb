use Rattle.code_at.specs.Code.{program_of}
use Rattle.jump_table.specs.Pattern.{Begins}
use Rattle.jump_table.proofs.StepLemmas.{finds_none}
use Rattle.jump_table.proofs.FormLemmas.{begun_bounded, bounded_branch, bounded_base, begins_bounded}
use Rattle.jump_table.proofs.forms.bounded.Goals as goal

pub returns-in_err-bound : goal.returns-in_err-bound
returns-in_err-bound c =
    let program = program_of c.args.elf.now in
    finds_none (Begins program c.args.first) c.from_residual.result c.from_residual.ensures (λ table is.
    let rest = begun_bounded program c.args.first c.args.second c.args.index c.requires.stands table is in
    c.in_err-bound.ensures (record { number = rest.n; end = rest.third }) rest.bounds)

pub returns-in_err-jump : goal.returns-in_err-jump
returns-in_err-jump c =
    let program = program_of c.args.elf.now in
    let bound = c.in_ok-bound.bound in
    finds_none (Begins program c.args.first) c.from_residual-in_err-jump.result c.from_residual-in_err-jump.ensures (λ table is.
    let rest = begun_bounded program c.args.first c.args.second c.args.index c.requires.stands table is in
    c.in_err-jump.ensures rest.jump
    (bounded_branch program c.args.second c.args.index table is.target rest bound.number bound.end c.in_ok-bound.ensures))

pub returns-in_err-base : goal.returns-in_err-base
returns-in_err-base c =
    let program = program_of c.args.elf.now in
    let bound = c.in_ok-bound.bound in
    finds_none (Begins program c.args.first) c.from_residual-in_err-base.result c.from_residual-in_err-base.ensures (λ table is.
    let rest = begun_bounded program c.args.first c.args.second c.args.index c.requires.stands table is in
    c.in_err-base.ensures rest.base
    (bounded_base program c.args.second c.args.index table is.target rest bound.number bound.end c.in_ok-bound.ensures
    c.in_ok-jump.jump c.in_ok-jump.ensures))

pub returns : goal.returns
returns c =
    let bound = c.in_ok-bound.bound in
    begins_bounded (program_of c.args.elf.now) c.args.first c.args.second bound.end c.in_ok-jump.jump c.args.index bound.number
    c.in_ok-base.base c.requires.stands c.in_ok-bound.ensures c.in_ok-jump.ensures c.in_ok-base.ensures
