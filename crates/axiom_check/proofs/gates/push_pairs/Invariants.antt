use Rattle.std.proofs.Common.{◌≡◌, ◌-◌, List}
use Rattle.ev_graph.specs.declared.events.Item.{Item}
use Rattle.ev_graph.specs.Events.{accesses}
use Rattle.axiom_check.specs.Gains.{Gains, Below}
use Rattle.axiom_check.specs.Gates.{AreGate, IsPairEdge}
use Rattle.axiom_check.proofs.gates.push_pairs.Given as goal

abbrev pub invariant-loop-m : goal.invariant-loop-m
invariant-loop-m l = (items : List Item) → accesses items ≡ l.own → AreGate items l.gate.door l.gate.from.items l.gate.to.items l.gate.opening.items
    → Gains (Below l.own (IsPairEdge l.events.accesses.items items l.gate.door) (l.m - 1)) l.initial.edges.items l.edges.items
