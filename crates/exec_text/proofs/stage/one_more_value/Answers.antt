use Rattle.std.proofs.lemmas.Result.{err_from_is_err_and}
use Rattle.exec_text.proofs.StageLemmas.{value_fault}
use Rattle.exec_text.proofs.stage.one_more_value.Goals as goal

pub returns-in_err-given : goal.returns-in_err-given
returns-in_err-given c =
    let p = err_from_is_err_and c.from_residual.result c.from_residual.ensures.1 in
    rw (p.1, p.2) (value_fault c.args.stacks c.args.done c.args.thread c.args.word c.args.fields c.in_err-given.field-0.0 c.requires.gives c.in_err-given.ensures)
