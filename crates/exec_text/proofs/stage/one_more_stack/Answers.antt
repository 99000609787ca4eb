use Rattle.std.proofs.Common.{◌≡◌, ℕ, List, length, ap, subst}
use Rattle.ev_graph.specs.declared.execution.Stack.{Stack}
use Rattle.exec_text.specs.Lines.{IsStack}
use Rattle.exec_text.proofs.stage.one_more_stack.Goals as goal

pub returns-in_default : goal.returns-in_default
returns-in_default c = λ next rule.
    let number : length c.args.stacks ≡ length c.as_slice-number.result.now = ap {B = ℕ} (λ (s : List Stack). length s) cc in
    let At : ℕ → Type 0 = λ n. IsStack n c.args.fields rule.1 in
    c.in_default.ensures rule.1 (subst At number rule.2)
