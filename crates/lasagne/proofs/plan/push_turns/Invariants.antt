use Rattle.std.proofs.Common.{◌≡◌, ◌++◌, drop, string_bytes}
use Rattle.lasagne.specs.Plan.{in_turn}
use Rattle.lasagne.proofs.plan.push_turns.Given as goal

abbrev pub invariant-loop-number : goal.invariant-loop-number
invariant-loop-number l =
    string_bytes l.out ++ in_turn (drop l.number l.gaps) (drop l.number l.slots) ≡ string_bytes l.initial.out ++ in_turn l.gaps l.slots
