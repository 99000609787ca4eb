use Rattle.cfg_walk.proofs.BlockRuns.{run_blocks}
use Rattle.cfg_walk.proofs.laws.threads_run_blocks.Goals as goal

pub returns : goal.returns
returns c = run_blocks
