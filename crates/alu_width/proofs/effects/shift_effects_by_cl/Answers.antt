use Rattle.alu_width.proofs.EffectLemmas.{shifts_by_cl}
use Rattle.alu_width.proofs.effects.shift_effects_by_cl.Goals as goal

pub returns : goal.returns
returns c = shifts_by_cl
