use Rattle.elf_write.specs.Image.{image_parts}
use Rattle.arm_replay.specs.Layouts.{ArePlaced}
use Rattle.arm_replay.proofs.layout.first_unplaced.Given as goal

abbrev pub invariant-loop-k : goal.invariant-loop-k
invariant-loop-k l = ArePlaced (image_parts l.image) l.stacks l.k
