use Rattle.std.proofs.Common.{◌≡◌, ◌++◌, drop}
use Rattle.std.specs.List.{flat_map}
use Rattle.cfg_walk.specs.Ends.{returned_by}
use Rattle.cfg_walk.proofs.sites.push_each_site.Given as goal

abbrev pub invariant-loop-p : goal.invariant-loop-p
invariant-loop-p l =
    l.into.items ++ flat_map returned_by (drop l.p-index l.placed)
    ≡ l.initial.into.items ++ flat_map returned_by l.placed
