use Rattle.std.proofs.Common.{refl}
use Rattle.ev_graph.proofs.Faultless.{no_fault_is_well_formed, fault_is_not_well_formed}
use Rattle.ev_graph.proofs.form.well_formed.Goals as goal

pub returns-in-Some-clause-ok : goal.returns-in-Some-clause-ok
returns-in-Some-clause-ok g c = (
  (λ false_is_true. absurd cc),
  (λ formed. absurd (fault_is_not_well_formed (g.S.StartMemory.cells c.args.start.now) c.args.x.now c.in-Some.fault c.in-Some.ensures formed)),
)

pub returns-in-None-clause-ok : goal.returns-in-None-clause-ok
returns-in-None-clause-ok g c =
    let law = no_fault_is_well_formed (g.S.StartMemory.cells c.args.start.now) c.args.x.now c.requires.shaped in
    ((λ true_is_true. law.0 c.in-None.ensures), (λ formed. refl))
