use Rattle.graph_reach.proofs.TurnedEdges.{reached_backwards}
use Rattle.graph_reach.proofs.laws.reached_backwards.Goals as goal

pub returns : goal.returns
returns c = reached_backwards
