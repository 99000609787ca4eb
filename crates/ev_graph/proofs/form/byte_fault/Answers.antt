use Rattle.std.proofs.Common.{Option, sym, subst}
use Rattle.ev_graph.specs.declared.execution.FormFault.{FormFault}
use Rattle.ev_graph.specs.Faults.{IsAbsent, IsFirstPresent, byte_faults}
use Rattle.ev_graph.proofs.FirstLemmas.{read_at}
use Rattle.ev_graph.proofs.GivingLemmas.{byte_answer}
use Rattle.ev_graph.proofs.form.byte_fault.Goals as goal

pub returns-clause-first : goal.returns-clause-first
returns-clause-first g c =
    let cells = g.S.StartMemory.cells c.args.start.now in
    let x = c.args.x.now in
    let e = c.args.entry.now in
    let Found : Option FormFault → Type 0 = λ found. IsFirstPresent (IsAbsent cells x) (byte_faults e.read c.args.k) found in
    subst Found (sym c.fault.ensures) (byte_answer cells x c.requires.shaped e c.args.read.now c.args.k _ c.giving_of.result c.requires.listed c.requires.read
    (read_at _ e.bytes c.args.k _ c.as_slice.ensures c.requires.within) c.giving_of.ensures.giving)
