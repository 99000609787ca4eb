use Rattle.std.proofs.Common.{length, take}
use Rattle.fence_place.specs.Marked.{marked}
use Rattle.translate_core.specs.Planned.{ArePlanned}
use Rattle.translate_core.proofs.plan.plan_code.Given as goal

abbrev pub invariant-loop-number : goal.invariant-loop-number
invariant-loop-number l = ArePlanned (marked l.private.slots) (length l.elf.threads) l.code (take l.number l.code.blocks) l.plan.items l.summary
