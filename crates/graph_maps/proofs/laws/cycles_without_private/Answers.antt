use Rattle.graph_maps.proofs.Private.{cycles_without_private_lem}
use Rattle.graph_maps.proofs.laws.cycles_without_private.Goals as goal

pub returns : goal.returns
returns c = cycles_without_private_lem
