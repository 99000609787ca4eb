use Rattle.std.proofs.Common.{◌≡◌, ◌++◌, ℕ, List, codes, string_bytes, ap, ◌∙◌, append_assoc}
use Rattle.ev_graph.specs.declared.execution.Source.{Source}
use Rattle.exec_text.proofs.PrintLemmas.{sources_at}
use Rattle.exec_text.specs.Explained.{sources_of, listed, merged}
use Rattle.exec_text.proofs.print.push_origin.Goals as goal

pub returns-in_ok-push_sources-in-Read-clause-text : goal.returns-in_ok-push_sources-in-Read-clause-text
returns-in_ok-push_sources-in-Read-clause-text c =
    let id = c.args.access.now.id in
    let entry = rw c.in-Read.is at c.requires.entry in
    let found : sources_of c.args.rf.now id ≡ c.index-rf-next.result.bytes = sources_at c.args.rf.now c.args.next id c.index-rf-next.result c.requires.distinct entry.0 c.index-rf-next.is in
    let shown : c.as_slice.result.now ≡ sources_of c.args.rf.now id = cc in
    let out = string_bytes c.args.out.now in
    rw c.in-Read.is
    (c.in_ok-push_sources-in-Read.ensures ∙ ap (λ (front : List ℕ). front ++ listed (merged c.as_slice.result.now)) c.in_ok-push_str-in-Read.ensures.bytes
    ∙ append_assoc out (codes " from ") (listed (merged c.as_slice.result.now)) ∙ ap (λ (sources : List Source). out ++ (codes " from " ++ listed (merged sources))) shown)
