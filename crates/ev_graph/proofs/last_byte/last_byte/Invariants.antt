use Rattle.ev_graph.specs.FinalByte.{IsLastBefore}
use Rattle.ev_graph.specs.FinderMark.{IsMark}
use Rattle.ev_graph.proofs.last_byte.last_byte.Given as goal

abbrev pub invariant-loop-id : goal.invariant-loop-id
invariant-loop-id l = record {
  mark : IsMark l.threads l.finder.thread l.finder.place l.finder.number;
  last : IsLastBefore l.threads l.co l.address l.id-index l.last;
}
