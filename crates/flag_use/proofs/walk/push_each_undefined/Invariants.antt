use Rattle.std.proofs.Common.{◌≡◌, ◌++◌, drop, false}
use Rattle.std.specs.List.{flat_map}
use Rattle.flag_use.specs.Onward.{addresses_in}
use Rattle.flag_use.specs.Effects.{effects_told}
use Rattle.flag_use.specs.Walk.{undefined_nodes}
use Rattle.flag_use.proofs.walk.push_each_undefined.Given as goal

abbrev pub invariant-loop-flag : goal.invariant-loop-flag
invariant-loop-flag l =
    l.into.items ++ flat_map (undefined_nodes (effects_told l.effects) false (addresses_in l.fn.onward)) (drop l.flag-index l.flag-items)
    ≡ l.initial.into.items ++ flat_map (undefined_nodes (effects_told l.effects) false (addresses_in l.fn.onward)) l.flag-items
