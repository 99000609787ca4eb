use Rattle.cfg_walk.proofs.Scans.{ApartUpTo}
use Rattle.cfg_walk.proofs.check.first_overlap.Given as goal

abbrev pub invariant-loop-k : goal.invariant-loop-k
invariant-loop-k l = ApartUpTo l.placed l.k
