use Rattle.axiom_check.proofs.AtomicLemmas.{gains_sorted}
use Rattle.axiom_check.proofs.atomic.Writes.of.Goals as goal

pub returns-clause-slots : goal.returns-clause-slots
returns-clause-slots c = gains_sorted _ _ _ _ c.new-slots.ensures.items c.in_ok-push_writes.ensures.targets c.in_ok-sorted.ensures.same
