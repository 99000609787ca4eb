use Rattle.std.proofs.Common.{◌≡◌, List, sym, ap, subst, ◌∙◌}
use Rattle.ev_graph.specs.declared.events.EventId.{EventId}
use Rattle.ev_graph.specs.declared.execution.ReadFrom.{ReadFrom}
use Rattle.ev_graph.specs.Places.{IsDistinct}
use Rattle.ev_graph.proofs.Ids.{reads_distinct}
use Rattle.exec_text.specs.Entries.{entry_ids}
use Rattle.exec_text.proofs.print.print_exec.Goals as goal

pub push_threads-requires-clause-distinct : goal.push_threads-requires-clause-distinct
push_threads-requires-clause-distinct c =
    let rf : c.as_slice-3.result.now ≡ c.args.x.now.rf = cc in
    let Distinct : List EventId → Type 0 = λ ids. IsDistinct ids in
    subst Distinct (sym (ap {B = List EventId} (λ (entries : List ReadFrom). entry_ids entries) rf ∙ c.requires.entries)) (reads_distinct c.args.x.now.threads c.requires.indexed)
