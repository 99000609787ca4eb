use Rattle.x64_table.proofs.WantsLemmas.{rows_want_holds}
use Rattle.x64_table.proofs.laws.rows_want.Goals as goal

pub returns : goal.returns
returns c = rows_want_holds
