use Rattle.lift_alu.specs.Meant.{after}
use Rattle.lift_alu.proofs.Lifting.{lifts_counted}
use Rattle.lift_alu.proofs.Marked.{lifts_slots, lifts_fences}
use Rattle.lift_alu.proofs.Selectable.{lifts_few, lifts_own, lifts_selectable}
use Rattle.lift_alu.proofs.lift.lift_instr.Goals as goal

pub returns-clause-meaning : goal.returns-clause-meaning
returns-clause-meaning c = rw c.in_ok-lifted.ensures (lifts_counted c.args.placed.now c.args.temps c.requires.formed c.requires.lifted c.requires.flow)

pub returns-clause-few : goal.returns-clause-few
returns-clause-few c =
    let p = c.args.placed.now in
    rw c.in_ok-lifted.ensures (lifts_few p.address (after p) c.args.temps p.flow p.instr c.requires.formed c.requires.lifted c.requires.flow)

pub returns-clause-selectable : goal.returns-clause-selectable
returns-clause-selectable c =
    let p = c.args.placed.now in
    rw c.in_ok-lifted.ensures (lifts_selectable p.address (after p) c.args.temps p.flow p.instr c.requires.formed c.requires.lifted c.requires.flow (after p) c.requires.few)

pub returns-clause-own : goal.returns-clause-own
returns-clause-own c =
    let p = c.args.placed.now in
    rw c.in_ok-lifted.ensures (lifts_own p.address (after p) c.args.temps p.flow p.instr c.requires.formed c.requires.lifted c.requires.flow)

pub returns-clause-slots : goal.returns-clause-slots
returns-clause-slots c =
    let p = c.args.placed.now in
    rw c.in_ok-lifted.ensures (lifts_slots p.address (after p) p.flow p.instr c.requires.formed c.requires.lifted c.args.temps)

pub returns-clause-fences : goal.returns-clause-fences
returns-clause-fences c =
    let p = c.args.placed.now in
    rw c.in_ok-lifted.ensures (lifts_fences p.address (after p) p.flow p.instr c.requires.formed c.requires.lifted c.args.temps)
