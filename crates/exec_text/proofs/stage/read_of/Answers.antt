use Rattle.exec_text.proofs.StageLemmas.{read_fault}
use Rattle.exec_text.proofs.stage.read_of.Goals as goal

pub returns-in-Err : goal.returns-in-Err
returns-in-Err c = read_fault c.args.fields c.in-Some.number.now c.in-Some.list.now c.in-Some-hex.value c.in-Err.fault c.in-Some.ensures c.in-Some-hex.ensures c.in-Err.ensures
