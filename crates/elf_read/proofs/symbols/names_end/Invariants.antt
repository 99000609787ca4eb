use Rattle.std.proofs.Common.{◌≡◌, ◌≤◌, ◌<◌, ◌↔◌, ℕ, get_or}
use Rattle.elf_read.proofs.symbols.names_end.Given as goal

abbrev pub invariant-loop-k : goal.invariant-loop-k
invariant-loop-k l = (at : ℕ) → ((k : ℕ) × (at ≤ k) × (k < l.k) × (get_or l.strings k 0 ≡ 0)) ↔ (at < l.end)
