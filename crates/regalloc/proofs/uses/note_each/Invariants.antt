use Rattle.std.proofs.Common.{◌≡◌, ◌<◌, ℕ, Some, nat_eq, take, if◌then◌else◌}
use Rattle.std.specs.List.{list_any}
use Rattle.indexmap.specs.IndexMap.{get}
use Rattle.regalloc.proofs.uses.note_each.Given as goal

abbrev pub invariant-loop-number : goal.invariant-loop-number
invariant-loop-number l = (n : ℕ) → 20 < n → get nat_eq l.last n ≡ (if list_any (nat_eq n) (take l.number-index l.numbers) then Some l.at else get nat_eq l.fn.last n)
