use Rattle.std.proofs.Common.{◌<◌, ℕ, None}
use Rattle.ev_graph.specs.Faults.{IsAbsent, IsFirstPresent, byte_faults}
use Rattle.ev_graph.specs.FinderMark.{IsMark}
use Rattle.ev_graph.proofs.form.entry_fault.Given as goal

abbrev pub invariant-loop-k : goal.invariant-loop-k
invariant-loop-k g l = record {
  sources : IsMark l.x.threads l.sources.thread l.sources.place l.sources.number;
  before : (j : ℕ) → j < l.k → IsFirstPresent (IsAbsent (g.S.StartMemory.cells l.start) l.x) (byte_faults l.entry.read j) None;
}
