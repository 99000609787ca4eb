use Rattle.std.proofs.Common.{◌∙◌}
use Rattle.regalloc.proofs.TestBlock.{write_allocatable}
use Rattle.regalloc.proofs.tests.write.Goals as goal

pub returns : goal.returns
returns c = write_allocatable c.of.result (c.of.ensures ∙ c.in_ok-from_slice.ensures.items)
