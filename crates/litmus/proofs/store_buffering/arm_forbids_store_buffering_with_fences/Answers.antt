use Rattle.litmus.proofs.StoreBufferingVerdicts.{arm_forbids}
use Rattle.litmus.proofs.store_buffering.arm_forbids_store_buffering_with_fences.Goals as goal

pub returns : goal.returns
returns c = arm_forbids
