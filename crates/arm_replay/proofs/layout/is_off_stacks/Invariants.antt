use Rattle.std.proofs.Common.{◌+◌}
use Rattle.ev_graph.specs.Memory.{Apart}
use Rattle.ev_graph.specs.declared.execution.Stack.{Stack}
use Rattle.arm_replay.proofs.LayoutLemmas.{SameBehind}
use Rattle.arm_replay.proofs.layout.is_off_stacks.Given as goal

abbrev pub invariant-loop-other : goal.invariant-loop-other
invariant-loop-other l = SameBehind (λ (other : Stack). Apart other.lo other.hi l.stack.lo l.stack.hi) l.earlier l.other-index
