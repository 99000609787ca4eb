use Rattle.cfg_walk.proofs.Scans.{indirect_first, overlap_first}
use Rattle.cfg_walk.proofs.check.check.Goals as goal

pub returns-in-Some : goal.returns-in-Some
returns-in-Some c = λ program are. indirect_first program c.in-Some.address (c.in-Some.ensures program are)

pub returns-in-Some-first_overlap : goal.returns-in-Some-first_overlap
returns-in-Some-first_overlap c =
    λ program are. overlap_first program c.in-Some-first_overlap.address (c.in_default.ensures program are) (c.in-Some-first_overlap.ensures program are)
