-- What is built and what is left, where a locked step is built.
use Rattle.std.proofs.Common.{◌≡◌, ℕ, ◌+◌, [], ◌∷◌, ◌++◌, ap, sym, ◌∙◌, append_assoc}
use Rattle.limm_ir.specs.declared.step.IrStep.{IrStep}
use Rattle.limm_ir.specs.declared.step.IrStep.TheVariants as steps
use Rattle.limm_ir.specs.declared.step.RmwOp.{RmwOp}
use Rattle.limm_ir.specs.declared.step.Temp.{Temp}
use Rattle.lift_alu.specs.declared.builder.Builder.{Builder}
use Rattle.lift_alu.specs.Formulas.{Formula, Kept, Lifting, temp}
use Rattle.lift_alu.specs.Locks.{modifies, replaces}
use Rattle.lift_alu.specs.SoFar.{so_far}
use Rattle.lift_alu.proofs.Building.{built_on}

-- a step sets the next temporary, which is kept
built_set : (b c d : Builder) (x : Temp → IrStep) (rest : Formula → Lifting) (u : Temp) → u ≡ temp b.next
    → c ≡ record { steps = b.steps; next = b.next + 1 }
    → d ≡ built_on c (x u ∷ []) c.next → b.steps ++ x (temp b.next) ∷ rest (Kept b.next) (b.next + 1) ≡ so_far d (rest (Kept u.0))
built_set b c d x rest u fresh next then_is =
    sym (append_assoc b.steps (x (temp b.next) ∷ []) (rest (Kept b.next) (b.next + 1)))
    ∙ sym (ap (λ (v : Temp). (b.steps ++ x v ∷ []) ++ rest (Kept v.0) (b.next + 1)) fresh)
    ∙ sym (ap (λ (o : Builder). (o.steps ++ x u ∷ []) ++ rest (Kept u.0) o.next) next)
    ∙ sym (ap (λ o. so_far o (rest (Kept u.0))) then_is)

-- what is at an address is changed
pub built_modifies : (b c d : Builder) (o : RmwOp) (at bytes : ℕ) (a v : Temp) (rest : Formula → Lifting) (u : Temp) → u ≡ temp b.next
    → c ≡ record { steps = b.steps; next = b.next + 1 } → d ≡ built_on c (steps.Rmw o u a v bytes at ∷ []) c.next
    → so_far b (modifies o at bytes a.0 v.0 rest) ≡ so_far d (rest (Kept u.0))
unfolding modifies
built_modifies b c d o at bytes a v rest u fresh next then_is = built_set b c d (λ t. steps.Rmw o t a v bytes at) rest u fresh next then_is

-- a value takes the place of another
pub built_replaces : (b c d : Builder) (at bytes : ℕ) (a e v : Temp) (rest : Formula → Lifting) (u : Temp) → u ≡ temp b.next
    → c ≡ record { steps = b.steps; next = b.next + 1 } → d ≡ built_on c (steps.Cas u a e v bytes at ∷ []) c.next
    → so_far b (replaces at bytes a.0 e.0 v.0 rest) ≡ so_far d (rest (Kept u.0))
unfolding replaces
built_replaces b c d at bytes a e v rest u fresh next then_is = built_set b c d (λ t. steps.Cas t a e v bytes at) rest u fresh next then_is
