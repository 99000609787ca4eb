use Rattle.exec_text.proofs.OneAnswer.{only_says, only_fault}
use Rattle.exec_text.proofs.read.read_exec.Goals as goal

pub returns-clause-only_says : goal.returns-clause-only_says
returns-clause-only_says c = only_says c.args.text.now c.read_lines.result c.read_lines.ensures.says c.read_lines.ensures.fault

pub returns-clause-only_fault : goal.returns-clause-only_fault
returns-clause-only_fault c = only_fault c.args.text.now c.read_lines.result c.read_lines.ensures.says c.read_lines.ensures.fault
