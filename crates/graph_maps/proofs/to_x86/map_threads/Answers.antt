use Rattle.graph_maps.specs.Maps.{x86_thread}
use Rattle.graph_maps.proofs.Each.{mapped_step}
use Rattle.graph_maps.proofs.to_x86.map_threads.Goals as goal

pub loop-thread-preserved : goal.loop-thread-preserved
loop-thread-preserved c =
    mapped_step x86_thread _ _ _ _ _ _ c.deref_mut-thread-items.ensures.value c.loop-thread-test.true c.loop-thread.auto.thread-items c.loop-thread.invariant c.map_thread.ensures
