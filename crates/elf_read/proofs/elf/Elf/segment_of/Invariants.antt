use Rattle.std.proofs.Common.{◌≡◌, drop, map}
use Rattle.ev_graph.specs.Memory.{cells_of}
use Rattle.elf_read.specs.Elf.{segment_part, elf_cells}
use Rattle.elf_read.proofs.elf.Elf.segment_of.Given as goal

abbrev pub invariant-loop-segment : goal.invariant-loop-segment
invariant-loop-segment l = elf_cells l.self l.address ≡ cells_of (map segment_part (drop l.segment-index l.segment-items)) l.address
