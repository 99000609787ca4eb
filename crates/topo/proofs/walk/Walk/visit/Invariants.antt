use Rattle.std.proofs.Common.{◌≡◌, ℕ, Some, length, slice_get}
use Rattle.topo.specs.declared.walk.Mark.TheVariants as mark
use Rattle.topo.specs.Walk.{Holds, left}
use Rattle.topo.proofs.walk.Walk.visit.Given as goal

abbrev pub invariant-loop-top : goal.invariant-loop-top
invariant-loop-top l = record {
  holds : Holds (length l.fn.self.marks.items) l.edges l.self;
  visited : slice_get l.self.marks.items l.v ≡ Some mark.New → ⊥;
  fewer_new : (u : ℕ) → slice_get l.self.marks.items u ≡ Some mark.New → slice_get l.fn.self.marks.items u ≡ Some mark.New;
}

abbrev pub decreases-loop-top : goal.decreases-loop-top
decreases-loop-top l = left l.self
