use Rattle.std.proofs.Common.{◌≡◌, ◌<◌, ℕ, List, [], length, ap, arith}
use Rattle.ev_graph.specs.declared.execution.Stack.{Stack}
use Rattle.std.proofs.lemmas.Bool.Decides.{nat_tests}
use Rattle.std.proofs.lemmas.Result.{err_from_is_err_and}
use Rattle.exec_text.proofs.StageLemmas.{first_beyond}
use Rattle.exec_text.proofs.stage.first_thread.Goals as goal

pub returns-in_default : goal.returns-in_default
returns-in_default c = λ next rule. c.in_default.ensures rule.1 rule.2

pub returns-in_err-thread : goal.returns-in_err-thread
returns-in_err-thread c =
    let p = err_from_is_err_and c.from_residual.result c.from_residual.ensures.1 in
    let stacks : length c.as_slice.result.now ≡ length c.args.stacks = ap {B = ℕ} (λ (s : List Stack). length s) cc in
    let some : 0 < length c.args.stacks = grind (arith, nat_tests, stacks) in
    rw (p.1, p.2, c.in_err-thread.ensures.0) (first_beyond c.args.stacks c.args.fields (record { count = c.in-Some.count; end = c.in-Some.end; values = [] }) some c.in-Some.ensures (omega (arith, c.in_err-thread.ensures.1)))
