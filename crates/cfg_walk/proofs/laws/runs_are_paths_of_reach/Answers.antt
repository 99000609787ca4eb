use Rattle.cfg_walk.proofs.Steps.{takes_reached}
use Rattle.cfg_walk.proofs.laws.runs_are_paths_of_reach.Goals as goal

pub returns : goal.returns
returns c = takes_reached
