use Rattle.cfg_walk.proofs.Sets.{found}
use Rattle.cfg_walk.proofs.addresses.has_address.Goals as goal

pub returns : goal.returns
returns c = found c.args.addresses.now c.args.address c.binary_search.result c.is_ok.result c.is_ok.ensures.value c.binary_search.ensures.position
