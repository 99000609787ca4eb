use Rattle.std.proofs.Common.{rules}
use Rattle.std.proofs.lemmas.List.Sorted.{IsNonDecreasingBy-from_sort_by_key}
use Rattle.cfg_walk.specs.Searching.{address_of}
use Rattle.cfg_walk.proofs.Sorting.{sorted_are}
use Rattle.cfg_walk.proofs.check.in_order.Goals as goal

pub returns-clause-are : goal.returns-clause-are
returns-clause-are c =
    let sorted = IsNonDecreasingBy-from_sort_by_key address_of _ c.sort_unstable_by_key.ensures.sorted (λ a r q k. search rules) in
    λ program found. sorted_are program c.args.placed.items c.sort_unstable_by_key.new.self.items c.sort_unstable_by_key.ensures.permutation sorted found
