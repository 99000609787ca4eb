use Rattle.axiom_check.specs.Gains.{Gains, Below}
use Rattle.axiom_check.specs.Bytes.{IsCoSource, IsCoTarget}
use Rattle.axiom_check.proofs.bytes.push_writes.Given as goal

abbrev pub invariant-loop-place : goal.invariant-loop-place
invariant-loop-place l = Gains (Below l.co (IsCoSource l.events.accesses.items l.writers.within l.writers.threads) l.place) l.initial.sources.items l.sources.items
    × Gains (Below l.co (IsCoTarget l.events.accesses.items) l.place) l.initial.targets.items l.targets.items
