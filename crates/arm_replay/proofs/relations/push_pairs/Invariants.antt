use Rattle.std.proofs.Common.{◌≡◌, ◌++◌, drop}
use Rattle.ev_graph.specs.Events.{accesses}
use Rattle.arm_replay.specs.Values.{thread_pairs}
use Rattle.arm_replay.proofs.RelationLemmas.{pairs_behind}
use Rattle.arm_replay.proofs.relations.push_pairs.Given as goal

abbrev pub invariant-loop-item : goal.invariant-loop-item
invariant-loop-item l = l.rmw.items ++ pairs_behind l.last (accesses (drop l.item-index l.items)) ≡ l.initial.rmw.items ++ thread_pairs l.items
