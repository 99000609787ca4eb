use Rattle.std.proofs.Common.{◌-◌}
use Rattle.arm_replay.specs.Memories.{low_step}
use Rattle.arm_replay.specs.Threads.{a64_start}
use Rattle.arm_replay.specs.Walking.{IsWithin, Stands}
use Rattle.arm_replay.proofs.walk.walk_thread.Given as goal

abbrev pub invariant-loop-walk : goal.invariant-loop-walk
invariant-loop-walk l =
    IsWithin l.given l.walk × Stands (low_step l.thread.memory.image.now l.thread.memory.stacks.now) (a64_start l.thread.number l.fn.stack l.fn.at) l.thread.number l.given l.walk

abbrev pub decreases-loop-walk : goal.decreases-loop-walk
decreases-loop-walk l = 1000001 - l.walk.begun
