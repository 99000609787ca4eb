use Rattle.std.proofs.Common.{◌≡◌, ◌++◌, drop}
use Rattle.arm_replay.specs.Values.{reads, entries, given_sources, thread_entries}
use Rattle.arm_replay.proofs.relations.push_entries.Given as goal

abbrev pub invariant-loop-item : goal.invariant-loop-item
invariant-loop-item l =
    l.rf.items ++ entries (reads (drop l.item-index l.items)) (given_sources (drop l.from l.values)) ≡ l.initial.rf.items ++ thread_entries l.items l.values
