-- The barriers of blocks.
use Rattle.std.specs.Prelude.{List, flat_map}
use Rattle.ev_graph.specs.declared.events.FenceKind.{FenceKind}
use Rattle.a64_code.specs.declared.instr.XReg.{XReg}
use Rattle.a64_block.specs.Barriers.{barriers_in}
use Rattle.a64_block.specs.declared.block.ABlock.{ABlock}

-- the kinds of the barriers of blocks, in order
abbrev pub barriers_of : List (ABlock XReg) → List FenceKind
barriers_of blocks = flat_map (λ (b : ABlock XReg). barriers_in b.steps) blocks
