use Rattle.std.proofs.Common.{◌≡◌, drop, map}
use Rattle.ev_graph.specs.Memory.{cells_of}
use Rattle.elf_write.specs.Image.{image_part}
use Rattle.elf_write.proofs.image.Image.segment_of.Given as goal

abbrev pub invariant-loop-segment : goal.invariant-loop-segment
invariant-loop-segment l = cells_of (map image_part l.self.segments) l.address ≡ cells_of (map image_part (drop l.segment-index l.segment-items)) l.address
