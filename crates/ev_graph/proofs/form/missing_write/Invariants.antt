use Rattle.std.proofs.Common.{◌≡◌, ◌<◌, ℕ, Some, None}
use Rattle.std.specs.List.{slice_get}
use Rattle.ev_graph.specs.declared.execution.ThreadRun.{ThreadRun}
use Rattle.ev_graph.specs.Places.{StandsIn}
use Rattle.ev_graph.specs.Faults.{IsFirstPresent}
use Rattle.ev_graph.specs.Giving.{thread_writes}
use Rattle.ev_graph.proofs.form.missing_write.Given as goal

abbrev pub invariant-loop-thread : goal.invariant-loop-thread
invariant-loop-thread l = (j : ℕ) (run : ThreadRun) → j < l.thread-index → slice_get l.threads j ≡ Some run
    → IsFirstPresent (StandsIn l.co) (thread_writes run.items) None
