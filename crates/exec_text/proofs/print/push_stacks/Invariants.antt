use Rattle.std.proofs.Common.{◌≡◌, ◌++◌, drop, string_bytes}
use Rattle.exec_text.specs.Explained.{stack_lines}
use Rattle.exec_text.proofs.print.push_stacks.Given as goal

abbrev pub invariant-loop-number : goal.invariant-loop-number
invariant-loop-number l = string_bytes l.out ++ stack_lines l.number (drop l.number l.stacks) ≡ string_bytes l.initial.out ++ stack_lines 0 l.stacks
