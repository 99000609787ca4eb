use Rattle.std.proofs.Common.{◌≡◌, ◌++◌, ◌+◌, drop, length, string_bytes}
use Rattle.std.specs.List.{flat_map}
use Rattle.exec_text.specs.Entries.{StandFrom, entry_ids, reads_in}
use Rattle.exec_text.specs.Explained.{item_line}
use Rattle.exec_text.proofs.print.push_items.Given as goal

abbrev pub invariant-loop-item : goal.invariant-loop-item
invariant-loop-item l = record {
  text : string_bytes l.out ++ flat_map (item_line l.rf) (drop l.item-index l.items) ≡ string_bytes l.initial.out ++ flat_map (item_line l.rf) l.items;
  entries : StandFrom (entry_ids l.rf) l.next (reads_in (drop l.item-index l.items));
  counted : l.next + length (reads_in (drop l.item-index l.items)) ≡ l.first + length (reads_in l.items);
}
