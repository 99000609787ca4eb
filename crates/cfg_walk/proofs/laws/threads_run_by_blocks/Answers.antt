use Rattle.cfg_walk.proofs.ByBlocks.{runs_by_blocks}
use Rattle.cfg_walk.proofs.laws.threads_run_by_blocks.Goals as goal

pub returns : goal.returns
returns c = runs_by_blocks
