use Rattle.ev_graph.specs.Start.{start_at}
use Rattle.ev_graph.proofs.GivingLemmas.{giving_moved}
use Rattle.ev_graph.proofs.giving.giving_of.Goals as goal

pub returns-in-From-clause-giving : goal.returns-in-From-clause-giving
returns-in-From-clause-giving g c =
    let start = start_at (g.S.StartMemory.cells c.args.start.now) c.args.x.now.stacks in
    giving_moved start _ _ c.args.read.now c.args.k _ _ _ c.as_slice.ensures c.in-From.is (c.giving_of_write.ensures.giving start)
