use Rattle.cfg_walk.proofs.Searches.{missed_from}
use Rattle.cfg_walk.proofs.find.Search.miss.Goals as goal

pub returns : goal.returns
returns c =
    λ program table place at is told. missed_from program table c.args.self.now.nodes place c.args.self.now.placed.items c.args.self.now.bad c.args.fault c.lesser_of.result c.lesser_of.ensures at is told
