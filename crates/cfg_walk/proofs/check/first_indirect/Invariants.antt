use Rattle.cfg_walk.proofs.Scans.{DirectUpTo}
use Rattle.cfg_walk.proofs.check.first_indirect.Given as goal

abbrev pub invariant-loop-p : goal.invariant-loop-p
invariant-loop-p l = DirectUpTo l.placed l.p-index
