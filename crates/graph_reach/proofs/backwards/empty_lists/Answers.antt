use Rattle.graph_reach.proofs.TurnedEdges.{lists_pushed}
use Rattle.graph_reach.proofs.backwards.empty_lists.Goals as goal

pub loop-preserved : goal.loop-preserved
loop-preserved c = lists_pushed c.loop.lists.items c.new.result c.loop.counter c.push.new.self.items c.loop.invariant c.new.ensures.items c.in_ok-push.ensures.items
