use Rattle.std.proofs.Common.{◌∙◌}
use Rattle.lift_alu.specs.Formulas.{done}
use Rattle.lift_alu.specs.Lifted.{puts_word}
use Rattle.lift_alu.proofs.builder.Builder.put_word.Goals as goal

pub returns : goal.returns
unfolding puts_word
returns c = c.in_ok-set_over.ensures _ ∙ c.in_ok-put.ensures done
