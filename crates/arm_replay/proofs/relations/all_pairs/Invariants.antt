use Rattle.std.proofs.Common.{◌≡◌, ◌++◌, drop}
use Rattle.arm_replay.specs.Replays.{all_pairs}
use Rattle.arm_replay.proofs.relations.all_pairs.Given as goal

abbrev pub invariant-loop-thread : goal.invariant-loop-thread
invariant-loop-thread l = l.rmw.items ++ all_pairs (drop l.thread-index l.threads) ≡ all_pairs l.threads
