use Rattle.graph_maps.proofs.Sources.{well_formed_has_sources_lem}
use Rattle.graph_maps.proofs.laws.well_formed_has_sources.Goals as goal

pub returns : goal.returns
returns c = well_formed_has_sources_lem
