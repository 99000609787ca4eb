use Rattle.std.proofs.Common.{◌<◌, ◌≤◌, ◌*◌, All, length}
use Rattle.graph_measure.proofs.ladder.ladder.Given as goal

abbrev pub invariant-loop-from : goal.invariant-loop-from
invariant-loop-from l = record {
  ends : All (λ e. (e.from < l.n) × (e.to < l.n)) l.edges.items;
  few : length l.edges.items ≤ 8 * l.from;
}
