use Rattle.std.proofs.Common.{nat_lt, rules}
use Rattle.std.proofs.lemmas.List.Sorted.{IsPartitionPoint-from_clause, IsPartitionedBy-ltb}
use Rattle.axiom_check.specs.declared.lanes.Slot.{Slot}
use Rattle.axiom_check.proofs.LanesLemmas.{partition_first, is_non_decreasing}
use Rattle.axiom_check.proofs.lanes.first_at.Goals as goal

pub returns-clause-first : goal.returns-clause-first
returns-clause-first c =
    let slots = c.args.slots.now in
    let key = c.args.key in
    partition_first slots key c.partition_point.result
    (IsPartitionPoint-from_clause (λ (s : Slot). nat_lt s.key key) slots _ c.partition_point.ensures.partitioned
    (IsPartitionedBy-ltb (λ (s : Slot). s.key) slots key (is_non_decreasing slots c.requires)) (λ a r f called. search rules))
