use Rattle.std.proofs.Common.{length}
use Rattle.exec_text.proofs.ReadLemmas.{ReadSo}
use Rattle.exec_text.proofs.read.read_lines.Given as goal

abbrev pub invariant-loop-bytes : goal.invariant-loop-bytes
invariant-loop-bytes l = ReadSo l.text l.rest l.stage l.line

abbrev pub decreases-loop-bytes : goal.decreases-loop-bytes
decreases-loop-bytes l = length l.rest
