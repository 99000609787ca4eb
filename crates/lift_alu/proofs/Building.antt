-- What is built and what is left, where a part of it is built.
use Rattle.std.proofs.Common.{◌≡◌, ℕ, ◌+◌, List, [], ◌∷◌, ◌++◌, ap, sym, ◌∙◌, append_assoc}
use Rattle.limm_ir.specs.declared.step.IrStep.{IrStep}
use Rattle.limm_ir.specs.declared.step.IrStep.TheVariants as steps
use Rattle.limm_ir.specs.declared.step.Temp.{Temp}
use Rattle.lift_alu.specs.declared.builder.Builder.{Builder}
use Rattle.lift_alu.specs.Formulas.{Formula, Kept, Lifting, computes, size, place, temp, keeps, sets_register, sets_flag, loads, stores}
use Rattle.lift_alu.specs.SoFar.{so_far}

-- more steps are built
abbrev pub built_on : Builder → List IrStep → (next : ℕ) → Builder
built_on b more next = record { steps = b.steps ++ more; next = next }

-- a value is kept
pub built_keeps : (b c : Builder) (e : Formula) (rest : Formula → Lifting) (t : Temp) → t ≡ temp (place b.next e) → c ≡ built_on b (computes b.next e) (b.next + size e)
    → so_far b (keeps e rest) ≡ so_far c (rest (Kept t.0))
unfolding keeps
built_keeps b c e rest t at is =
    sym (append_assoc b.steps (computes b.next e) (rest (Kept (place b.next e)) (b.next + size e)))
    ∙ sym (ap (λ d. so_far d (rest (Kept (place b.next e)))) is) ∙ sym (ap (λ (u : Temp). so_far c (rest (Kept u.0))) at)

-- a value is computed, and a step that does not set a temporary stands behind its steps
pub built_then : (b c d : Builder) (e : Formula) (x : Temp → IrStep) (rest : Lifting) (t : Temp) → t ≡ temp (place b.next e) → c ≡ built_on b (computes b.next e) (b.next + size e)
    → d ≡ built_on c (x t ∷ []) c.next → b.steps ++ (computes b.next e ++ x (temp (place b.next e)) ∷ rest (b.next + size e)) ≡ so_far d rest
built_then b c d e x rest t at is then_is =
    sym (append_assoc b.steps (computes b.next e) (x (temp (place b.next e)) ∷ rest (b.next + size e)))
    ∙ sym (append_assoc (b.steps ++ computes b.next e) (x (temp (place b.next e)) ∷ []) (rest (b.next + size e)))
    ∙ sym (ap (λ u. (b.steps ++ computes b.next e) ++ x u ∷ [] ++ rest (b.next + size e)) at)
    ∙ sym (ap (λ (a : Builder). so_far (built_on a (x t ∷ []) a.next) rest) is)
    ∙ sym (ap (λ a. so_far a rest) then_is)

-- a register gets a value
pub built_sets_register : (b c d : Builder) (e : Formula) (r : ℕ) (rest : Lifting) (t : Temp) → t ≡ temp (place b.next e) → c ≡ built_on b (computes b.next e) (b.next + size e)
    → d ≡ built_on c (steps.SetReg r t ∷ []) c.next → so_far b (sets_register r e rest) ≡ so_far d rest
unfolding sets_register
built_sets_register b c d e r rest t at is then_is = built_then b c d e (λ u. steps.SetReg r u) rest t at is then_is

-- a flag gets a value
pub built_sets_flag : (b c d : Builder) (e : Formula) (f : ℕ) (rest : Lifting) (t : Temp) → t ≡ temp (place b.next e) → c ≡ built_on b (computes b.next e) (b.next + size e)
    → d ≡ built_on c (steps.SetFlag f t ∷ []) c.next → so_far b (sets_flag f e rest) ≡ so_far d rest
unfolding sets_flag
built_sets_flag b c d e f rest t at is then_is = built_then b c d e (λ u. steps.SetFlag f u) rest t at is then_is

-- what is read at an address is kept
pub built_loads : (b c d a : Builder) (e : Formula) (at bytes : ℕ) (rest : Formula → Lifting) (t u : Temp) → t ≡ temp (place b.next e)
    → c ≡ built_on b (computes b.next e) (b.next + size e) → u ≡ temp c.next → d ≡ record { steps = c.steps; next = c.next + 1 }
    → a ≡ built_on d (steps.Load u t bytes at ∷ []) d.next → so_far b (loads at bytes e rest) ≡ so_far a (rest (Kept u.0))
unfolding loads
built_loads b c d a e at bytes rest t u is_at is fresh next then_is =
    sym (append_assoc b.steps (computes b.next e) _)
    ∙ sym (append_assoc (b.steps ++ computes b.next e) (steps.Load (temp (b.next + size e)) (temp (place b.next e)) bytes at ∷ []) (rest (Kept (b.next + size e)) (b.next + size e + 1)))
    ∙ sym (ap (λ v. (b.steps ++ computes b.next e) ++ steps.Load (temp (b.next + size e)) v bytes at ∷ [] ++ rest (Kept (b.next + size e)) (b.next + size e + 1)) is_at)
    ∙ sym (ap (λ (o : Builder). (o.steps ++ steps.Load (temp o.next) t bytes at ∷ []) ++ rest (Kept o.next) (o.next + 1)) is)
    ∙ sym (ap (λ (v : Temp). (c.steps ++ steps.Load v t bytes at ∷ []) ++ rest (Kept v.0) (c.next + 1)) fresh)
    ∙ sym (ap (λ (o : Builder). (o.steps ++ steps.Load u t bytes at ∷ []) ++ rest (Kept u.0) o.next) next)
    ∙ sym (ap (λ o. so_far o (rest (Kept u.0))) then_is)

-- a value is written at an address
pub built_stores : (b c : Builder) (at bytes : ℕ) (a v : Temp) (rest : Lifting) → c ≡ built_on b (steps.Store a v bytes at ∷ []) b.next
    → so_far b (stores at bytes a.0 v.0 rest) ≡ so_far c rest
unfolding stores
built_stores b c at bytes a v rest is = sym (append_assoc b.steps (steps.Store a v bytes at ∷ []) (rest b.next)) ∙ sym (ap (λ o. so_far o rest) is)
