use Rattle.std.proofs.lemmas.Option.{slice_get-get_or}
use Rattle.graph_reach.proofs.Adding.{adds_more}
use Rattle.graph_reach.proofs.nodes.Nodes.add_all.Goals as goal

pub loop-node-preserved : goal.loop-node-preserved
loop-node-preserved c =
    let more = c.args.more.now in
    adds_more c.args.self.now more c.loop-node.node-index _ c.loop-node.self c.add.new.self (slice_get-get_or more c.loop-node.node-index 0 c.loop-node-test.true) c.loop-node.invariant c.in_ok-add.ensures
