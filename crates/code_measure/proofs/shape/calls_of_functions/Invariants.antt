use Rattle.std.proofs.Common.{◌≤◌, ◌*◌, vec_len}
use Rattle.code_measure.proofs.shape.calls_of_functions.Given as goal

abbrev pub invariant-loop-k : goal.invariant-loop-k
invariant-loop-k l = vec_len l.code ≤ 5 * l.k
