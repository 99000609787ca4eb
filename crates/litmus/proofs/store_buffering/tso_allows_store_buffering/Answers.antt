use Rattle.litmus.proofs.StoreBufferingVerdicts.{tso_allows}
use Rattle.litmus.proofs.store_buffering.tso_allows_store_buffering.Goals as goal

pub returns : goal.returns
returns c = tso_allows
