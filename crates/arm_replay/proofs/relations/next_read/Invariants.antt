use Rattle.std.proofs.Common.{◌≡◌, drop}
use Rattle.arm_replay.specs.Values.{given_sources}
use Rattle.arm_replay.proofs.relations.next_read.Given as goal

abbrev pub invariant-loop-place : goal.invariant-loop-place
invariant-loop-place l = given_sources (drop l.from l.values) ≡ given_sources (drop l.place l.values)
