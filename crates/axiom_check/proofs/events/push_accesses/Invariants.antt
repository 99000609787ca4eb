use Rattle.std.proofs.Common.{◌≡◌, ◌++◌, drop}
use Rattle.ev_graph.specs.Events.{accesses}
use Rattle.axiom_check.proofs.events.push_accesses.Given as goal

abbrev pub invariant-loop-item : goal.invariant-loop-item
invariant-loop-item l = l.out.items ++ accesses (drop l.item-index l.items) ≡ l.initial.out.items ++ accesses l.items
