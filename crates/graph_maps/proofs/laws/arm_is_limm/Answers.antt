use Rattle.graph_maps.proofs.ToLimm.{arm_is_limm_lem}
use Rattle.graph_maps.proofs.laws.arm_is_limm.Goals as goal

pub returns : goal.returns
returns c = arm_is_limm_lem
