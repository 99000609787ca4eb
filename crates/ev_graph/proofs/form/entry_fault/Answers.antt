use Rattle.std.proofs.Common.{◌≡◌, ℕ, None, List, subst, below_more}
use Rattle.ev_graph.specs.declared.execution.ThreadRun.{ThreadRun}
use Rattle.ev_graph.specs.Events.{access_at}
use Rattle.ev_graph.specs.Faults.{IsAbsent, IsFirstPresent, byte_faults}
use Rattle.ev_graph.proofs.FirstLemmas.{within_same, past_same}
use Rattle.ev_graph.proofs.GivingLemmas.{entry_first, entry_none, no_read}
use Rattle.ev_graph.proofs.form.entry_fault.Goals as goal

pub returns-in-Some-byte_fault-clause-first : goal.returns-in-Some-byte_fault-clause-first
returns-in-Some-byte_fault-clause-first g c =
    entry_first (g.S.StartMemory.cells c.args.start.now) c.args.x.now c.args.entry.now c.loop-k.k c.in-Some-byte_fault.fault
    (within_same _ c.args.entry.now.bytes c.loop-k.k c.as_slice-k-end.ensures c.loop-k-test.true) c.loop-k.invariant.before c.in-Some-byte_fault.ensures.first

pub loop-k-preserved : goal.loop-k-preserved
loop-k-preserved g c =
    let First : ℕ → Type 0 = λ k. IsFirstPresent (IsAbsent (g.S.StartMemory.cells c.args.start.now) c.args.x.now) (byte_faults c.args.entry.now.read k) None in
    record { sources = c.byte_fault.ensures.mark; before = below_more First c.loop-k.k c.loop-k.invariant.before c.in_default-byte_fault.ensures.first }

pub returns-clause-first : goal.returns-clause-first
returns-clause-first g c =
    entry_none (g.S.StartMemory.cells c.args.start.now) c.args.x.now c.args.entry.now c.loop-k.k
    (past_same _ c.args.entry.now.bytes c.loop-k.k c.as_slice-k-end.ensures c.loop-k-test.false) c.loop-k.invariant.before

pub returns-in_default-clause-first : goal.returns-in_default-clause-first
returns-in_default-clause-first g c =
    let x = c.args.x.now in
    let e = c.args.entry.now in
    let At : List ThreadRun → Type 0 = λ threads. None ≡ access_at threads e.read in
    let none : None ≡ access_at x.threads e.read = subst At c.as_slice.ensures c.in_default.ensures.found in
    no_read (g.S.StartMemory.cells c.args.start.now) x e (λ a found. cc)
