use Rattle.std.proofs.Common.{◌∙◌}
use Rattle.regalloc.proofs.TestBlock.{block_allocatable}
use Rattle.regalloc.proofs.tests.block.Goals as goal

pub returns : goal.returns
returns c = block_allocatable c.of.result (c.of.ensures ∙ c.in_ok-from_slice.ensures.items)
