use Rattle.topo.proofs.Ends.{order_excludes_cycle}
use Rattle.topo.proofs.laws.order_excludes_cycle.Goals as goal

pub returns : goal.returns
returns c = order_excludes_cycle
