use Rattle.std.proofs.Common.{◌≡◌, ◌+◌, ℕ, List, [], length, ap, subst, arith}
use Rattle.ev_graph.specs.declared.execution.Stack.{Stack}
use Rattle.exec_text.specs.declared.exec_file.GivenThread.{GivenThread}
use Rattle.std.proofs.lemmas.Result.{err_from_is_err_and}
use Rattle.exec_text.specs.Lines.{IsThread, counts}
use Rattle.exec_text.proofs.StageLemmas.{next_beyond}
use Rattle.exec_text.proofs.stage.next_thread.Goals as goal

pub returns-in_default : goal.returns-in_default
returns-in_default c = λ next rule.
    let number : length c.args.done + 1 ≡ length c.as_slice-number.result.now + 1 = ap {B = ℕ} (λ (s : List GivenThread). length s + 1) cc in
    let At : ℕ → Type 0 = λ n. IsThread n c.args.fields rule.1 in
    c.in_default.ensures rule.1 (subst At number rule.2)

pub returns-in_err-next : goal.returns-in_err-next
returns-in_err-next c =
    let p = err_from_is_err_and c.from_residual.result c.from_residual.ensures.1 in
    let u : GivenThread = record { count = c.in-Some.count; end = c.in-Some.end; values = [] } in
    let threads : length c.as_slice-threads.result.now ≡ length c.args.stacks = ap {B = ℕ} (λ (s : List Stack). length s) cc in
    let number : length c.as_slice-number.result.now + 1 ≡ length c.args.done + 1 = ap {B = ℕ} (λ (s : List GivenThread). length s + 1) cc in
    let threads_done : c.as_slice.result.now ≡ c.args.done = cc in
    let before : counts c.as_slice.result.now ≡ counts c.args.done = ap {B = ℕ} (λ (s : List GivenThread). counts s) threads_done in
    let At : ℕ → Type 0 = λ n. IsThread n c.args.fields u in
    rw (p.1, p.2, c.in_err-next.ensures.0) (next_beyond c.args.stacks c.args.done c.args.thread c.args.fields u (omega (arith, threads, number)) (subst At number c.in-Some.ensures)
    (omega (arith, c.in_err-next.ensures.1, before, c.total.ensures, c.from.ensures)))
