use Rattle.regalloc.proofs.Barriers.{allocated_barriers}
use Rattle.regalloc.proofs.Separate.{allocated_means, allocated_layable}
use Rattle.regalloc.proofs.allocation.allocate.Goals as goal

pub returns-clause-meaning : goal.returns-clause-meaning
returns-clause-meaning c =
    allocated_means c.args.block.steps c.args.block.end _ c.of.result _ c.renamed_end.result _ c.requires c.in_ok-slots.ensures c.of.ensures c.in_ok-words.ensures c.as_slice.ensures c.renamed_end.ensures

pub returns-clause-layable : goal.returns-clause-layable
returns-clause-layable c =
    allocated_layable c.args.block.steps c.args.block.end _ c.of.result _ c.renamed_end.result _ c.requires c.in_ok-slots.ensures c.of.ensures c.in_ok-words.ensures c.as_slice.ensures c.renamed_end.ensures

pub returns-clause-barriers : goal.returns-clause-barriers
returns-clause-barriers c = allocated_barriers c.args.block.steps c.args.block.end _ c.of.result _ _ c.in_ok-slots.ensures c.of.ensures c.in_ok-words.ensures c.as_slice.ensures
