use Rattle.std.proofs.Common.{◌++◌, ◌∷◌, [], ℕ, List, length, subst, sym, ap, ◌∙◌}
use Rattle.graph_reach.specs.declared.rows.Span.{Span}
use Rattle.graph_reach.specs.Spans.{rows_in, AreSpans}
use Rattle.graph_reach.proofs.RowLemmas.{rows_kept, rows_pushed, spans_pushed, on_err}
use Rattle.graph_reach.proofs.rows.Rows.push.Goals as goal

pub returns-in_err-push-clause-err : goal.returns-in_err-push-clause-err
returns-in_err-push-clause-err c =
    let old = c.self.inside in
    on_err c.from_residual-in_err-push.result _
    (ap (λ (spans : List Span). rows_in c.extend_from_slice.new.self.items spans) c.in_err-push.ensures.items
    ∙ ap (λ (targets : List ℕ). rows_in targets old.spans.items) c.in_ok-extend_from_slice.ensures.items
    ∙ rows_kept old.targets.items c.args.row.now old.spans.items c.self.invariant ∙ c.self.view_is)

pub invariant_of-self-2 : goal.invariant_of-self-2
invariant_of-self-2 c =
    let old = c.self.inside in
    let span : Span = record { start = c.len-start.result; end = c.len-end.result } in
    let targets = c.in_ok-extend_from_slice.ensures.items in
    let ends = c.len-end.ensures ∙ c.extend_from_slice.new.self.ok.0 ∙ ap length targets in
    let spans = spans_pushed old.targets.items c.args.row.now old.spans.items span c.self.invariant (c.len-start.ensures ∙ old.targets.ok.0) ends in
    let moved = subst (λ (xs : List ℕ). AreSpans xs (old.spans.items ++ span ∷ [])) (sym targets) spans in
    subst (λ (xs : List Span). AreSpans c.extend_from_slice.new.self.items xs) (sym c.in_ok-push.ensures.items) moved

pub returns-clause-ok : goal.returns-clause-ok
returns-clause-ok c =
    let old = c.self.inside in
    let span : Span = record { start = c.len-start.result; end = c.len-end.result } in
    let targets = c.in_ok-extend_from_slice.ensures.items in
    let ends = c.len-end.ensures ∙ c.extend_from_slice.new.self.ok.0 ∙ ap length targets in
    let pushed = rows_pushed old.targets.items c.args.row.now old.spans.items span c.self.invariant (c.len-start.ensures ∙ old.targets.ok.0) ends in
    ap (λ (xs : List Span). rows_in c.extend_from_slice.new.self.items xs) c.in_ok-push.ensures.items
    ∙ ap (λ (xs : List ℕ). rows_in xs (old.spans.items ++ span ∷ [])) targets
    ∙ pushed ∙ ap (λ (rows : List (List ℕ)). rows ++ c.args.row.now ∷ []) c.self.view_is
