use Rattle.std.proofs.Common.{◌↔◌, ℕ, map, take}
use Rattle.ev_graph.specs.Places.{StandsIn}
use Rattle.frame_marks.specs.Lists.{address_of}
use Rattle.frame_marks.proofs.marking.nodes_of.Given as goal

abbrev pub invariant-loop-p : goal.invariant-loop-p
invariant-loop-p l = (a : ℕ) → StandsIn l.nodes a ↔ StandsIn (map address_of (take l.p-index l.placed)) a
