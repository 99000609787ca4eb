use Rattle.a64_table.proofs.RowLemmas.{rows_are_paths}
use Rattle.a64_table.proofs.laws.answers_are_paths.Goals as goal

pub returns : goal.returns
returns c = rows_are_paths
