-- Each line is of a part of what is left.
use Rattle.std.proofs.Common.{length}
use Rattle.decode_lines.proofs.listing.listing.Given as goal

abbrev pub decreases-loop-rest : goal.decreases-loop-rest
decreases-loop-rest l = length l.rest
