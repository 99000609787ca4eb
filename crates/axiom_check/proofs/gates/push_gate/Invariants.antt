use Rattle.std.proofs.Common.{◌≡◌, ◌+◌, ℕ, List}
use Rattle.ev_graph.specs.declared.events.Item.{Item}
use Rattle.ev_graph.specs.Events.{accesses}
use Rattle.axiom_check.specs.Gains.{Gains, Below}
use Rattle.axiom_check.specs.Gates.{AreGate, IsGateSource, IsGateTarget, IsWide}
use Rattle.axiom_check.proofs.gates.push_gate.Given as goal

abbrev pub invariant-loop-m : goal.invariant-loop-m
invariant-loop-m l = ((items : List Item) (k : ℕ) → l.gate.tag ≡ 16 + k → accesses items ≡ l.own
    → AreGate items l.gate.door l.gate.from.items l.gate.to.items l.gate.opening.items
    → Gains (Below l.own (IsGateSource l.events.accesses.items items l.gate.door k) l.m) l.initial.sources.items l.sources.items)
    × ((items : List Item) (k : ℕ) → l.gate.tag ≡ 16 + k → accesses items ≡ l.own → IsWide l.gate.door.opening
    → AreGate items l.gate.door l.gate.from.items l.gate.to.items l.gate.opening.items
    → Gains (Below l.own (IsGateTarget l.events.accesses.items items l.gate.door k) l.m) l.initial.targets.items l.targets.items)
