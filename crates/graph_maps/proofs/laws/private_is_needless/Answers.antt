use Rattle.graph_maps.proofs.Private.{private_is_needless_lem}
use Rattle.graph_maps.proofs.laws.private_is_needless.Goals as goal

pub returns : goal.returns
returns c = private_is_needless_lem
