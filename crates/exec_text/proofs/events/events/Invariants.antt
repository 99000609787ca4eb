use Rattle.exec_text.specs.Events.{IsEvent, IsSmallOrder}
use Rattle.exec_text.proofs.KeptLemmas.{KeptBefore}
use Rattle.exec_text.proofs.events.events.Given as goal

abbrev pub invariant-loop-part : goal.invariant-loop-part
invariant-loop-part l = KeptBefore IsEvent IsSmallOrder l.fn.fields l.part-iterator l.wide l.found.items
