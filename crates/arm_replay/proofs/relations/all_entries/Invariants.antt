use Rattle.std.proofs.Common.{◌≡◌, ◌++◌, drop}
use Rattle.arm_replay.specs.Replays.{all_entries}
use Rattle.arm_replay.proofs.relations.all_entries.Given as goal

abbrev pub invariant-loop-k : goal.invariant-loop-k
invariant-loop-k l = l.rf.items ++ all_entries (drop l.k l.threads) (drop l.k l.given) ≡ all_entries l.threads l.given
