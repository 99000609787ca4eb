use Rattle.std.proofs.Common.{◌+◌}
use Rattle.axiom_check.specs.Gains.{Gains, BelowNumber}
use Rattle.axiom_check.specs.Bytes.{IsSourceAt}
use Rattle.axiom_check.proofs.bytes.push_source.Given as goal

abbrev pub invariant-loop-k : goal.invariant-loop-k
invariant-loop-k l = Gains (BelowNumber (λ k. IsSourceAt l.writers.within l.writers.threads l.found.access.id.thread l.found.number (l.found.access.address + k) l.place) l.k) l.initial.sources.items l.sources.items
