use Rattle.graph_reach.proofs.Searches.{by_path}
use Rattle.graph_reach.proofs.laws.reached_by_path.Goals as goal

pub returns : goal.returns
returns c = by_path
