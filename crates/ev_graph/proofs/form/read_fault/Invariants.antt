use Rattle.std.proofs.Common.{◌≡◌, ◌<◌, ℕ, Some, None}
use Rattle.std.specs.List.{slice_get}
use Rattle.ev_graph.specs.declared.execution.ReadFrom.{ReadFrom}
use Rattle.ev_graph.specs.Faults.{IsAbsent, IsFirstPresent, entry_faults}
use Rattle.ev_graph.specs.FinderMark.{IsMark}
use Rattle.ev_graph.proofs.form.read_fault.Given as goal

abbrev pub invariant-loop-entry : goal.invariant-loop-entry
invariant-loop-entry g l = record {
  reads : IsMark l.x.threads l.reads.thread l.reads.place l.reads.number;
  sources : IsMark l.x.threads l.sources.thread l.sources.place l.sources.number;
  before : (j : ℕ) (e : ReadFrom) → j < l.entry-index → slice_get l.x.rf j ≡ Some e
      → IsFirstPresent (IsAbsent (g.S.StartMemory.cells l.start) l.x) (entry_faults e) None;
}
