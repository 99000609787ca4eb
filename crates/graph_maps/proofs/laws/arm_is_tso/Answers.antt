use Rattle.graph_maps.proofs.ToTso.{arm_is_tso_lem}
use Rattle.graph_maps.proofs.laws.arm_is_tso.Goals as goal

pub returns : goal.returns
returns c = arm_is_tso_lem
