use Rattle.flag_use.proofs.Nodes.{within_limit}
use Rattle.flag_use.proofs.check.paths.Goals as goal

pub unwrap-requires : goal.unwrap-requires
unwrap-requires c = within_limit _ _ c.in_ok-found.found c.in_ok-found.ensures.over.0
