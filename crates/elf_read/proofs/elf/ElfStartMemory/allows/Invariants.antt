use Rattle.std.proofs.Common.{◌≡◌, ◌+◌, ◌<◌, ℕ, true}
use Rattle.ev_graph.specs.Memory.{permits}
use Rattle.elf_read.specs.Elf.{elf_cells}
use Rattle.elf_read.proofs.elf.ElfStartMemory.allows.Given as goal

abbrev pub invariant-loop-k : goal.invariant-loop-k
invariant-loop-k l = (j : ℕ) → j < l.k → permits l.write (elf_cells l.self (l.address + j)) ≡ true
