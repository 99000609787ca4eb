use Rattle.std.proofs.Common.{◌≡◌, ◌++◌, drop}
use Rattle.frame_marks.specs.Lists.{witnesses}
use Rattle.frame_marks.proofs.witnesses.witnesses.Given as goal

abbrev pub invariant-loop-p : goal.invariant-loop-p
invariant-loop-p l = l.addresses.items ++ witnesses l.sign (drop l.p-index l.placed) ≡ witnesses l.sign l.placed
