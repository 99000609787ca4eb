use Rattle.alu_width.proofs.EffectLemmas.{turns_by_cl}
use Rattle.alu_width.proofs.effects.turn_effects_by_cl.Goals as goal

pub returns : goal.returns
returns c = turns_by_cl
