use Rattle.std.proofs.Common.{◌≡◌, length, take}
use Rattle.std.specs.Prelude.{flat_map}
use Rattle.x64_syntax.specs.Slots.{placed_slots}
use Rattle.translate_core.proofs.counted.count_accesses.Given as goal

abbrev pub invariant-loop-placed : goal.invariant-loop-placed
invariant-loop-placed l = l.accesses ≡ length (flat_map placed_slots (take l.placed-index l.instructions))
