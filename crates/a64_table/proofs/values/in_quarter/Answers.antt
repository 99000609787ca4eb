use Rattle.std.proofs.Common.{ℕ, ◌<◌, ◌/◌, Bool, true, false, arith}
use Rattle.a64_code.specs.Ranges.{bits}
use Rattle.a64_table.proofs.ArithmeticLemmas.{quarter_fits}
use Rattle.a64_table.proofs.values.in_quarter.Goals as goal

four : (x : Bool) (quarter : ℕ) → quarter < bits x / 16 → quarter < 4
four true quarter few = omega (arith, few)
four false quarter few = omega (arith, few)

pub returns-clause-value : goal.returns-clause-value
returns-clause-value c =
    let few = four c.args.x c.args.quarter c.requires in
    let same = quarter_fits c.args.v c.args.quarter (omega arith) few in
    rw (c.from.ensures, c.from-2.ensures) same
