use Rattle.std.proofs.Common.{take}
use Rattle.translate_core.specs.Passed.{ArePassed}
use Rattle.translate_core.proofs.block.pass_blocks.Given as goal

abbrev pub invariant-loop-number : goal.invariant-loop-number
invariant-loop-number l = ArePassed l.private.slots l.code (take l.number l.code.blocks) l.blocks.items
