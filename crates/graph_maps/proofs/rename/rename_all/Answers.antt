use Rattle.graph_maps.specs.Maps.{renamed}
use Rattle.graph_maps.proofs.Each.{mapped_step}
use Rattle.graph_maps.proofs.rename.rename_all.Goals as goal

pub loop-one-preserved : goal.loop-one-preserved
loop-one-preserved g c =
    mapped_step (renamed g.M.FenceMap.image) _ _ _ _ _ _ c.deref_mut-one-items.ensures.value c.loop-one-test.true c.loop-one.auto.one-items
    c.loop-one.invariant c.rename.ensures
