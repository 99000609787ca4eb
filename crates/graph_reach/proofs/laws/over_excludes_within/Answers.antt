use Rattle.graph_reach.proofs.Searches.{over_excludes_within}
use Rattle.graph_reach.proofs.laws.over_excludes_within.Goals as goal

pub returns : goal.returns
returns c = over_excludes_within
