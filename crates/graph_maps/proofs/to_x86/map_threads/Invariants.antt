use Rattle.std.proofs.Common.{◌≡◌, ◌++◌, map, take, drop}
use Rattle.graph_maps.specs.Maps.{x86_thread}
use Rattle.graph_maps.proofs.to_x86.map_threads.Given as goal

abbrev pub invariant-loop-thread : goal.invariant-loop-thread
invariant-loop-thread l = l.thread-items ≡ map x86_thread (take l.thread-index l.fn.threads.items) ++ drop l.thread-index l.fn.threads.items
