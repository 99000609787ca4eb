use Rattle.std.proofs.Common.{◌<◌, ◌≤◌, ◌+◌, All, length}
use Rattle.graph_measure.proofs.ladder.push_rungs.Given as goal

abbrev pub invariant-loop-to : goal.invariant-loop-to
invariant-loop-to l = record {
  ends : All (λ e. (e.from < l.n) × (e.to < l.n)) l.edges.items;
  few : length l.edges.items + l.from + 1 ≤ length l.fn.edges.items + l.to;
}
