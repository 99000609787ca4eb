use Rattle.std.proofs.Common.{◌/◌, ◌%◌, ap, sym}
use Rattle.ev_graph.proofs.Bytes.{pow-bytes, byte_of_past}
use Rattle.ev_graph.proofs.ranges.byte_at.Goals as goal

pub returns-then-k-lt8 : goal.returns-then-k-lt8
returns-then-k-lt8 c = ap (λ power. c.args.value / power % 256) (pow-bytes c.args.k)

pub returns-else-k-lt8 : goal.returns-else-k-lt8
returns-else-k-lt8 c = sym (byte_of_past c.args.value c.args.k c.ranges.value.fits c.if-k-lt8.false)
