use Rattle.std.proofs.Common.{◌≡◌, ◌+◌, ◌≤◌, length}
use Rattle.exec_text.specs.Parts.{parts_at}
use Rattle.exec_text.specs.Events.{IsSource, AreSmallSources}
use Rattle.exec_text.proofs.KeptLemmas.{KeptBefore}
use Rattle.exec_text.proofs.events.sources.Given as goal

abbrev pub invariant-loop-part : goal.invariant-loop-part
invariant-loop-part l = record {
  kept : KeptBefore IsSource AreSmallSources (parts_at 44 l.text) l.part-iterator l.wide l.found.items;
  counted : l.count + length l.part-iterator ≡ length (parts_at 44 l.text);
  few : l.count ≤ 8;
}
