use Rattle.std.proofs.Common.{◌≡◌, ◌++◌, map, take, drop}
use Rattle.graph_maps.specs.Maps.{renamed}
use Rattle.graph_maps.proofs.rename.rename_all.Given as goal

abbrev pub invariant-loop-one : goal.invariant-loop-one
invariant-loop-one g l = l.one-items ≡ map (renamed g.M.FenceMap.image) (take l.one-index l.fn.items.items) ++ drop l.one-index l.fn.items.items
