use Rattle.std.proofs.Common.{arith}
use Rattle.axiom_check.proofs.atomic.is_written_by.Goals as goal

pub returns : goal.returns
returns c = λ place slot other low high stands is.
    let first = c.key_of.ensures in
    let second = c.key_of-2.ensures in
    c.has_between.ensures slot stands (omega arith) (omega arith)
