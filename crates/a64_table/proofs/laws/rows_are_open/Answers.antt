use Rattle.a64_table.proofs.RowLemmas.{rows_are_open}
use Rattle.a64_table.proofs.laws.rows_are_open.Goals as goal

pub returns : goal.returns
returns c = rows_are_open
