use Rattle.std.proofs.Common.{◌≡◌, ◌+◌, ◌<◌, ℕ, true}
use Rattle.ev_graph.specs.Memory.{permits}
use Rattle.elf_write.specs.Image.{image_cells}
use Rattle.elf_write.proofs.memory.ImageStartMemory.allows.Given as goal

abbrev pub invariant-loop-k : goal.invariant-loop-k
invariant-loop-k l = (j : ℕ) → j < l.k → permits l.write (image_cells l.self (l.address + j)) ≡ true
