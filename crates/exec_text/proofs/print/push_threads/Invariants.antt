use Rattle.std.proofs.Common.{◌≡◌, ◌++◌, drop, string_bytes}
use Rattle.std.specs.List.{flat_map}
use Rattle.exec_text.specs.Entries.{StandFrom, entry_ids, reads_in}
use Rattle.exec_text.specs.Explained.{thread_lines}
use Rattle.exec_text.proofs.print.push_threads.Given as goal

abbrev pub invariant-loop-number : goal.invariant-loop-number
invariant-loop-number l = record {
  text : string_bytes l.out ++ thread_lines l.rf l.number (drop l.number l.threads) ≡ string_bytes l.initial.out ++ thread_lines l.rf 0 l.threads;
  entries : StandFrom (entry_ids l.rf) l.next (flat_map (λ t. reads_in t.items) (drop l.number l.threads));
}
