use Rattle.std.proofs.Common.{Option, Some, None, sym, subst}
use Rattle.ev_graph.specs.declared.execution.FormFault.{FormFault}
use Rattle.ev_graph.specs.Faults.{IsFirstFault}
use Rattle.ev_graph.proofs.FormLemmas.{fault_of_reads, fault_of_co, fault_of_missing, missing_same}
use Rattle.ev_graph.proofs.form.first_fault.Goals as goal

pub returns-in-Some : goal.returns-in-Some
returns-in-Some g c = fault_of_reads (g.S.StartMemory.cells c.args.start.now) c.args.x.now c.in-Some.fault c.in-Some.ensures

pub returns-in-Some-co_fault : goal.returns-in-Some-co_fault
returns-in-Some-co_fault g c =
    let cells = g.S.StartMemory.cells c.args.start.now in
    fault_of_co cells c.args.x.now c.in-Some-co_fault.fault c.in_default.ensures (c.in-Some-co_fault.ensures cells)

pub returns : goal.returns
returns g c =
    let cells = g.S.StartMemory.cells c.args.start.now in
    let x = c.args.x.now in
    fault_of_missing cells x (Some c.in_ok-missing.missing) c.in_default.ensures (c.in_default-co_fault.ensures cells)
    (missing_same x _ _ _ c.as_slice.ensures c.as_slice-2.ensures c.in_ok-missing.ensures)

pub returns-in_err-missing : goal.returns-in_err-missing
returns-in_err-missing g c =
    let cells = g.S.StartMemory.cells c.args.start.now in
    let x = c.args.x.now in
    let Found : Option FormFault → Type 0 = λ found. IsFirstFault cells x found in
    subst Found (sym c.from_residual.ensures)
    (fault_of_missing cells x None c.in_default.ensures (c.in_default-co_fault.ensures cells)
    (missing_same x _ _ _ c.as_slice.ensures c.as_slice-2.ensures c.in_err-missing.ensures))
