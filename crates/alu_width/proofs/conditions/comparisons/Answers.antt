use Rattle.alu_width.proofs.ConditionLemmas.{comparisons}
use Rattle.alu_width.proofs.conditions.comparisons.Goals as goal

pub returns : goal.returns
returns c = comparisons
