use Rattle.std.proofs.Common.{◌≡◌, ◌++◌}
use Rattle.gen_input.specs.Made.{rounds_code}
use Rattle.gen_input.proofs.made.push_rounds.Given as goal

abbrev pub invariant-loop-number : goal.invariant-loop-number
invariant-loop-number l = l.code.items ≡ l.initial.code.items ++ rounds_code l.number
