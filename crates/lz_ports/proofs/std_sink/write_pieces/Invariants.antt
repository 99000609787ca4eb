use Rattle.std.proofs.Common.{length}
use Rattle.lz_ports.proofs.std_sink.write_pieces.Given as goal

abbrev pub decreases-loop-out : goal.decreases-loop-out
decreases-loop-out g l = length l.rest
