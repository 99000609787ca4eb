use Rattle.std.proofs.Common.{◌≡◌, ◌++◌, drop}
use Rattle.flag_use.specs.Walk.{nodes_of}
use Rattle.flag_use.proofs.walk.push_nodes.Given as goal

abbrev pub invariant-loop-address : goal.invariant-loop-address
invariant-loop-address l =
    l.into.items ++ nodes_of (drop l.address-index l.addresses) l.fn.track ≡ l.initial.into.items ++ nodes_of l.addresses l.fn.track
