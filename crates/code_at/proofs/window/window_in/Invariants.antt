use Rattle.std.proofs.Common.{◌≡◌, ◌+◌, ◌<◌, ℕ, length, get_or}
use Rattle.code_at.proofs.window.window_in.Given as goal

abbrev pub invariant-loop-k : goal.invariant-loop-k
invariant-loop-k l = (length l.bytes ≡ 15) × ((j : ℕ) → j < l.k → get_or l.bytes j 0 ≡ get_or l.segment.bytes (l.offset + j) 0)
