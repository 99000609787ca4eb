use Rattle.std.proofs.Common.{◌≡◌, ◌<◌, ℕ, Some}
use Rattle.std.specs.List.{slice_get}
use Rattle.ev_graph.specs.declared.events.EventId.{EventId}
use Rattle.ev_graph.specs.Places.{StandsIn}
use Rattle.ev_graph.specs.WellFormed.{write_ids}
use Rattle.ev_graph.specs.FinderMark.{IsMark}
use Rattle.ev_graph.proofs.form.co_fault.Given as goal

abbrev pub invariant-loop-i : goal.invariant-loop-i
invariant-loop-i l = record {
  mark : IsMark l.x.threads l.finder.thread l.finder.place l.finder.number;
  before : (j : ℕ) (w : EventId) → j < l.i → slice_get l.x.co j ≡ Some w
      → StandsIn (write_ids l.x.threads) w × ((k : ℕ) → k < j → slice_get l.x.co k ≡ Some w → ⊥);
}
