use Rattle.std.proofs.Common.{eq-eqb}
use Rattle.std.proofs.lemmas.Bool.{eqb-true}
use Rattle.axiom_check.proofs.GatesLemmas.{fence_after}
use Rattle.axiom_check.proofs.gates.is_fence_after.Goals as goal

pub returns : goal.returns
returns c = λ f items lasts.
    let law = fence_after f items c.args.n c.at.result (lasts.told c.args.n c.at.result c.at.ensures) in
    ((λ yes. law.1 (eqb-true _ _ yes)), (λ fence. eq-eqb _ _ (law.0 fence)))
