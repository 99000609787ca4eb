use Rattle.std.proofs.Common.{rules}
use Rattle.std.proofs.lemmas.Fn.{filter_same}
use Rattle.graph_maps.specs.Maps.{is_kept}
use Rattle.graph_maps.proofs.to_x86.drop_needless.Goals as goal

pub returns : goal.returns
returns c = filter_same _ is_kept _ (λ x b f' k. search rules) _ _ c.retain.ensures.filtered
