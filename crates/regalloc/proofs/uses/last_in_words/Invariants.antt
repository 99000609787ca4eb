use Rattle.std.proofs.Common.{nat_eq, take}
use Rattle.indexmap.specs.IndexMap.{get}
use Rattle.regalloc.specs.Uses.{AreLastIn}
use Rattle.regalloc.proofs.uses.last_in_words.Given as goal

abbrev pub invariant-loop-at : goal.invariant-loop-at
invariant-loop-at l = AreLastIn (take l.at l.words) (get nat_eq l.last)
