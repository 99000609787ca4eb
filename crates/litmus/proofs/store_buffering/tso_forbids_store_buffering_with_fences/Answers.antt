use Rattle.litmus.proofs.StoreBufferingVerdicts.{tso_forbids}
use Rattle.litmus.proofs.store_buffering.tso_forbids_store_buffering_with_fences.Goals as goal

pub returns : goal.returns
returns c = tso_forbids
