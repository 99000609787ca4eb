use Rattle.cfg_walk.proofs.Sets.{set_of}
use Rattle.cfg_walk.proofs.addresses.sorted_set.Goals as goal

pub returns : goal.returns
returns c =
    set_of c.args.addresses.items c.sort.new.self.items c.dedup.new.self.items c.in_ok-sort.ensures.permutation c.in_ok-sort.ensures.sorted c.dedup.ensures.filtered
