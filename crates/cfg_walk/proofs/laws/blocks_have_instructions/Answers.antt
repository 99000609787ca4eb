use Rattle.cfg_walk.proofs.Instructions.{have_instructions}
use Rattle.cfg_walk.proofs.laws.blocks_have_instructions.Goals as goal

pub returns : goal.returns
returns c = have_instructions
