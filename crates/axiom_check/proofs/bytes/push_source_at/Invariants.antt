use Rattle.axiom_check.specs.Gains.{Gains, BelowNumber}
use Rattle.axiom_check.specs.Bytes.{IsSourceTo}
use Rattle.axiom_check.proofs.bytes.push_source_at.Given as goal

abbrev pub invariant-loop-thread : goal.invariant-loop-thread
invariant-loop-thread l = Gains (BelowNumber (IsSourceTo l.writers.within l.found.access.id.thread l.found.number l.byte l.place) l.thread) l.initial.sources.items l.sources.items
