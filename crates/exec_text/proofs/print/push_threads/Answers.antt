use Rattle.std.proofs.Common.{◌∙◌, refl, string_bytes}
use Rattle.exec_text.specs.Entries.{entry_ids}
use Rattle.exec_text.proofs.PrintLemmas.{stand_all, read_ids-threads, these_entries, entries_behind, thread_printed}
use Rattle.exec_text.proofs.print.push_threads.Goals as goal

pub loop-number-init : goal.loop-number-init
loop-number-init c = record { text = refl; entries = stand_all (entry_ids c.args.rf.now) _ (c.requires.entries ∙ read_ids-threads c.args.threads.now) }

pub push_thread-requires-clause-entries : goal.push_thread-requires-clause-entries
push_thread-requires-clause-entries c =
    these_entries (entry_ids c.args.rf.now) c.loop-number.next c.args.threads.now c.loop-number.number c.index-threads-number.result c.loop-number-test.true c.index-threads-number.is
    c.loop-number.invariant.entries

pub loop-number-preserved : goal.loop-number-preserved
loop-number-preserved c =
    let threads = c.args.threads.now in
    let i = c.loop-number.number in
    record {
      text = thread_printed c.args.rf.now (string_bytes c.loop-number.out) (string_bytes c.push_thread.new.out) _ threads i c.index-threads-number.result c.loop-number-test.true c.index-threads-number.is
          c.in_ok-next.ensures.text c.loop-number.invariant.text;
      entries = entries_behind (entry_ids c.args.rf.now) c.loop-number.next c.in_ok-next.next threads i c.index-threads-number.result c.loop-number-test.true c.index-threads-number.is
          c.in_ok-next.ensures.next c.loop-number.invariant.entries;
    }
