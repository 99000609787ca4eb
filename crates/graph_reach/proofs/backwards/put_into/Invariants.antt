use Rattle.std.proofs.Common.{◌≡◌, length, take}
use Rattle.graph_reach.specs.Backwards.{lists_of}
use Rattle.graph_reach.specs.Turning.{AddsInto}
use Rattle.graph_reach.proofs.backwards.put_into.Given as goal

abbrev pub invariant-loop-other : goal.invariant-loop-other
invariant-loop-other l = record {
  adds : AddsInto l.nodes l.node (take l.other-index l.successors) (lists_of l.fn.lists.items) (lists_of l.lists.items);
  long : length l.nodes ≡ length l.lists.items;
}
