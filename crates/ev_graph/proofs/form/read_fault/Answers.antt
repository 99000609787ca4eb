use Rattle.std.proofs.Common.{None}
use Rattle.ev_graph.specs.declared.execution.ReadFrom.{ReadFrom}
use Rattle.ev_graph.specs.Faults.{IsAbsent, IsFirstPresent, entry_faults}
use Rattle.ev_graph.proofs.FirstLemmas.{item_at, step_at, first_joined, joined_end, past_same}
use Rattle.ev_graph.proofs.form.read_fault.Goals as goal

pub loop-entry-preserved : goal.loop-entry-preserved
loop-entry-preserved g c =
    let x = c.args.x.now in
    let None_of = λ (e : ReadFrom). IsFirstPresent (IsAbsent (g.S.StartMemory.cells c.args.start.now) x) (entry_faults e) None in
    let here = item_at _ x.rf c.loop-entry.entry-index c.entry-item.result c.as_slice-entry-items.ensures c.loop-entry-test.true c.entry-item.is in
    record {
      reads = c.entry_fault.ensures.reads;
      sources = c.entry_fault.ensures.sources;
      before = step_at None_of x.rf c.loop-entry.entry-index c.entry-item.result here c.loop-entry.invariant.before c.in_default.ensures.first;
    }

pub returns-in-Some : goal.returns-in-Some
returns-in-Some g c =
    let x = c.args.x.now in
    let here = item_at _ x.rf c.loop-entry.entry-index c.entry-item.result c.as_slice-entry-items.ensures c.loop-entry-test.true c.entry-item.is in
    first_joined (IsAbsent (g.S.StartMemory.cells c.args.start.now) x) entry_faults x.rf c.loop-entry.entry-index c.entry-item.result c.in-Some.fault
    c.loop-entry.invariant.before here c.in-Some.ensures.first

pub returns : goal.returns
returns g c =
    let x = c.args.x.now in
    joined_end (IsAbsent (g.S.StartMemory.cells c.args.start.now) x) entry_faults x.rf c.loop-entry.entry-index
    (past_same _ x.rf c.loop-entry.entry-index c.as_slice-entry-items.ensures c.loop-entry-test.false) c.loop-entry.invariant.before
