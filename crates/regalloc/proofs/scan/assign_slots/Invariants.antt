use Rattle.std.proofs.Common.{nat_eq}
use Rattle.indexmap.specs.IndexMap.{get}
use Rattle.regalloc.specs.Scan.{IsScanned}
use Rattle.regalloc.proofs.scan.assign_slots.Given as goal

abbrev pub invariant-loop-at : goal.invariant-loop-at
invariant-loop-at l = IsScanned l.block.end l.block.steps (get nat_eq l.state.slots) l.state.until l.at
