use Rattle.std.proofs.Common.{◌≤◌, ◌*◌, ◌+◌, vec_len}
use Rattle.code_measure.proofs.shape.tails.Given as goal

abbrev pub invariant-loop : goal.invariant-loop
invariant-loop l = vec_len l.code ≤ 112001 + 3 * l.counter
