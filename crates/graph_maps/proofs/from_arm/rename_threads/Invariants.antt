use Rattle.std.proofs.Common.{◌≡◌, ◌++◌, map, take, drop}
use Rattle.graph_maps.specs.Maps.{limm_thread}
use Rattle.graph_maps.proofs.from_arm.rename_threads.Given as goal

abbrev pub invariant-loop-thread : goal.invariant-loop-thread
invariant-loop-thread l = l.thread-items ≡ map limm_thread (take l.thread-index l.fn.threads.items) ++ drop l.thread-index l.fn.threads.items
