use Rattle.std.proofs.Common.{◌≡◌, length}
use Rattle.arm_replay.specs.Memories.{low_step}
use Rattle.arm_replay.specs.Replays.{AreRunsBy}
use Rattle.arm_replay.proofs.execution.walk_threads.Given as goal

abbrev pub invariant-loop-k : goal.invariant-loop-k
invariant-loop-k l = (length l.runs.items ≡ l.k) × AreRunsBy (low_step l.image l.file.stacks) l.image l.file l.runs.items
