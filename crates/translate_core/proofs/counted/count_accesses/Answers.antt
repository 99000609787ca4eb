use Rattle.std.proofs.Common.{arith}
use Rattle.translate_core.proofs.BlockCounts.{first_few}
use Rattle.translate_core.proofs.FewSlots.{listed_few}
use Rattle.translate_core.proofs.counted.count_accesses.Goals as goal

pub overflow_add-accesses : goal.overflow_add-accesses
overflow_add-accesses c =
    let made = first_few c.loop-placed.placed-index c.args.instructions.now c.requires in
    let here = c.loop-placed.invariant in
    let few = listed_few c.slots_of.result in
    let count = c.count.ensures in
    omega (arith, made, here, few, count)
