use Rattle.std.proofs.Common.{◌≡◌, ◌+◌, ◌<◌, ℕ, true}
use Rattle.ev_graph.specs.Memory.{permits}
use Rattle.arm_replay.specs.Memories.{low_cells}
use Rattle.arm_replay.proofs.memory.ThreadMemoryStartMemory.allows.Given as goal

abbrev pub invariant-loop-k : goal.invariant-loop-k
invariant-loop-k l = (j : ℕ) → j < l.k → permits l.write (low_cells l.self.image.now l.self.stacks.now (l.address + j)) ≡ true
