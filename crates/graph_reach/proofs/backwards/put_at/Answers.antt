use Rattle.std.proofs.Common.{refl}
use Rattle.std.proofs.lemmas.Option.{slice_get_read}
use Rattle.graph_reach.proofs.TurnedEdges.{lists_put}
use Rattle.graph_reach.proofs.backwards.put_at.Goals as goal

pub returns : goal.returns
returns c =
    let lists = c.args.lists.now.items in
    lists_put lists c.args.place c.args.node c.index_mut.result.now c.push.new.self (slice_get_read lists _ c.args.place c.index_mut.result.now refl c.requires c.index_mut.ensures.value) c.in_ok-push.ensures.items
