use Rattle.axiom_check.proofs.Graphs.{all_below}
use Rattle.axiom_check.proofs.lanes.Graph.order.Goals as goal

pub order_or_cycle-requires-clause-ends : goal.order_or_cycle-requires-clause-ends
order_or_cycle-requires-clause-ends c = all_below c.args.self.now.nodes c.args.self.now.edges.items _ c.as_slice.ensures.value c.requires.ends
