use Rattle.std.proofs.Common.{◌≡◌, ◌+◌}
use Rattle.axiom_check.specs.Gains.{Gains, BelowNumber}
use Rattle.axiom_check.specs.Bytes.{key}
use Rattle.axiom_check.proofs.bytes.push_target.Given as goal

abbrev pub invariant-loop-k : goal.invariant-loop-k
invariant-loop-k l = Gains (BelowNumber (λ k s. s ≡ record { key = key (l.found.access.address + k) l.found.access.id.thread l.place; event = l.found.number }) l.k) l.initial.targets.items l.targets.items
