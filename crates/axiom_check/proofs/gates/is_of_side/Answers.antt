use Rattle.axiom_check.proofs.GatesLemmas.{side_before, side_after}
use Rattle.axiom_check.proofs.gates.is_of_side.Goals as goal

pub returns-in-Before : goal.returns-in-Before
returns-in-Before c = λ items here lasts.
    side_before c.args.side c.in-Before.field-0 c.in-Before.is items c.args.m c.args.access.now c.args.lasts.now c.is_read_before.result here lasts c.is_read_before.ensures

pub returns-in-After : goal.returns-in-After
returns-in-After c = λ items here lasts.
    side_after c.args.side c.in-After.field-0 c.in-After.is items c.args.m c.args.access.now c.args.lasts.now c.is_write_after.result here lasts c.is_write_after.ensures
