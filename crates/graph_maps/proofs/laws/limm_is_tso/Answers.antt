use Rattle.graph_maps.proofs.ToTso.{limm_is_tso_lem}
use Rattle.graph_maps.proofs.laws.limm_is_tso.Goals as goal

pub returns : goal.returns
returns c = limm_is_tso_lem
