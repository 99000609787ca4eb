use Rattle.lift.proofs.Recovered.{found_within, found_lifted, found_those}
use Rattle.lift.proofs.block.instructions_of.Goals as goal

pub part-requires : goal.part-requires
part-requires c =
    found_within c.args.code.now c.args.block c.requires.code c.requires.block _ _ _ c.as_slice-placed.ensures c.as_slice.ensures c.place_of-first.result c.place_of-first.ensures

pub returns-clause-lifted : goal.returns-clause-lifted
returns-clause-lifted c =
    found_lifted c.args.code.now c.args.block c.requires.code c.requires.block _ _ _ c.as_slice-placed.ensures c.as_slice.ensures c.place_of-first.result c.place_of-first.ensures
    c.part.result.now c.part.ensures

pub returns-clause-those : goal.returns-clause-those
returns-clause-those c =
    found_those c.args.code.now c.args.block c.requires.code c.requires.block _ _ _ c.as_slice-placed.ensures c.as_slice.ensures c.place_of-first.result c.place_of-first.ensures
    c.part.result.now c.part.ensures
