use Rattle.std.proofs.Common.{arith}
use Rattle.a64_table.proofs.ArithmeticLemmas.{wider}
use Rattle.a64_table.proofs.words.extended.Goals as goal

pub overflow_sub-result : goal.overflow_sub-result
overflow_sub-result c = omega (arith, wider c.args.len c.args.v c.requires.longer)

pub returns-then-a-power-clause-fits : goal.returns-then-a-power-clause-fits
returns-then-a-power-clause-fits c = omega (arith, wider c.args.len c.args.v c.requires.longer)

pub returns-else-sign-clause-fits : goal.returns-else-sign-clause-fits
returns-else-sign-clause-fits c = omega (arith, wider c.args.len c.args.v c.requires.longer)
