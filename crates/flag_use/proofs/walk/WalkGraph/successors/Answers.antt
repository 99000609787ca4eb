use Rattle.flag_use.proofs.Lookups.{found_listed}
use Rattle.flag_use.proofs.walk.WalkGraph.successors.Goals as goal

pub push_next-requires : goal.push_next-requires
push_next-requires c = c.args.self.now.ordered.low _ (found_listed c.args.self.now.placed.now _ _ c.in-Some.ensures.some)
