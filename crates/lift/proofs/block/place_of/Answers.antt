use Rattle.std.proofs.Common.{nat_lt, rules}
use Rattle.std.proofs.lemmas.List.Sorted.{IsPartitionPoint-from_clause, IsPartitionedBy-ltb}
use Rattle.x64_syntax.specs.declared.placed.Placed.{Placed}
use Rattle.lift.proofs.Recovered.{found_place, rising_places}
use Rattle.lift.proofs.block.place_of.Goals as goal

pub returns : goal.returns
returns c =
    let placed = c.args.placed.now in
    let address = c.args.address in
    λ k p at is. found_place placed c.requires address c.partition_point.result k p
    (IsPartitionPoint-from_clause (λ (p : Placed). nat_lt p.address address) placed _ c.partition_point.ensures.partitioned
    (IsPartitionedBy-ltb (λ (p : Placed). p.address) placed address (rising_places placed c.requires)) (λ a r f called. search rules)) at is
