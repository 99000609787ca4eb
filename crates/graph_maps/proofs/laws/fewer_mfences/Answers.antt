use Rattle.graph_maps.proofs.Private.{fewer_mfences_lem}
use Rattle.graph_maps.proofs.laws.fewer_mfences.Goals as goal

pub returns : goal.returns
returns c = fewer_mfences_lem
