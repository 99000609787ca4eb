use Rattle.cfg_walk.proofs.Steps.{never_jumps_wrong}
use Rattle.cfg_walk.proofs.laws.no_wrong_jump.Goals as goal

pub returns : goal.returns
returns c = never_jumps_wrong
