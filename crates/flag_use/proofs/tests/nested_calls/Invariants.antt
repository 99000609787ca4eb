use Rattle.std.proofs.Common.{◌≤◌, ◌*◌, vec_len}
use Rattle.flag_use.proofs.tests.nested_calls.Given as goal

abbrev pub invariant-loop : goal.invariant-loop
invariant-loop l = vec_len l.code ≤ 6 * l.counter
