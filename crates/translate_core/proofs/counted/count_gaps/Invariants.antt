use Rattle.std.proofs.Common.{◌≡◌, take}
use Rattle.translate_core.specs.Planned.{gap_counts}
use Rattle.translate_core.proofs.counted.count_gaps.Given as goal

abbrev pub invariant-loop-gap : goal.invariant-loop-gap
invariant-loop-gap l = l.counts ≡ gap_counts (take l.gap-index l.gaps)
