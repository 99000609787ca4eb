use Rattle.flag_use.proofs.Readings.{NoneBefore}
use Rattle.flag_use.proofs.check.first_reading.Given as goal

abbrev pub invariant-loop-p : goal.invariant-loop-p
invariant-loop-p l = NoneBefore l.nodes l.placed l.p-index
