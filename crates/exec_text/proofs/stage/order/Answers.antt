use Rattle.std.proofs.Common.{◌≡◌, ◌+◌, ℕ, List, length, ap, arith}
use Rattle.ev_graph.specs.declared.execution.Stack.{Stack}
use Rattle.exec_text.specs.declared.exec_file.GivenThread.{GivenThread}
use Rattle.std.proofs.lemmas.Result.{err_from_is_err_and}
use Rattle.exec_text.proofs.StageLemmas.{order_fault}
use Rattle.exec_text.proofs.stage.order.Goals as goal

pub returns-in_err-co : goal.returns-in_err-co
returns-in_err-co c =
    let p = err_from_is_err_and c.from_residual.result c.from_residual.ensures.1 in
    let threads : length c.as_slice-threads.result.now ≡ length c.args.stacks = ap {B = ℕ} (λ (s : List Stack). length s) cc in
    let number : length c.as_slice.result.now ≡ length c.args.done = ap {B = ℕ} (λ (s : List GivenThread). length s) cc in
    let last : length c.args.done + 1 ≡ length c.args.stacks = omega (arith, threads, number) in
    rw (p.1, p.2) (order_fault c.args.stacks c.args.done c.args.thread c.args.fields c.in_err-co.field-0.0 last c.in_err-co.ensures)
