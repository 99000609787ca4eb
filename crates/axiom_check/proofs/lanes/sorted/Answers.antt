use Rattle.std.proofs.Common.{rules}
use Rattle.std.proofs.lemmas.List.Sorted.{IsNonDecreasingBy-from_sort_by_key}
use Rattle.axiom_check.specs.declared.lanes.Slot.{Slot}
use Rattle.axiom_check.proofs.LanesLemmas.{is_rising, same_elements}
use Rattle.axiom_check.proofs.lanes.sorted.Goals as goal

pub returns-clause-rising : goal.returns-clause-rising
returns-clause-rising c =
    is_rising _ (IsNonDecreasingBy-from_sort_by_key (λ (s : Slot). s.key) _ c.in_ok-sort_by_key.ensures.sorted (λ a r f called. search rules))

pub returns-clause-same : goal.returns-clause-same
returns-clause-same c = same_elements _ _ c.in_ok-sort_by_key.ensures.permutation
