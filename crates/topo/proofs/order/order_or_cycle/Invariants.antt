use Rattle.std.proofs.Common.{◌≡◌, ◌<◌, ℕ, [], Some, slice_get}
use Rattle.topo.specs.declared.walk.Mark.TheVariants.{New}
use Rattle.topo.specs.Walk.{AreWalkable, Holds}
use Rattle.topo.proofs.order.order_or_cycle.Given as goal

abbrev pub invariant-loop-v : goal.invariant-loop-v
invariant-loop-v l = record {
  walkable : AreWalkable l.n l.edges l.before.items;
  holds : Holds l.n l.edges l.walk;
  idle : l.walk.stack.items ≡ [];
  visited : (u : ℕ) → u < l.v → slice_get l.walk.marks.items u ≡ Some New → ⊥;
}
