use Rattle.std.proofs.Common.{arith, inr, refl, sym, subst, ◌∙◌}
use Rattle.limm_ir.specs.Conditions.{IsSelectable}
use Rattle.limm_ir.specs.declared.block.IrEnd.TheVariants.{Return}
use Rattle.isel.proofs.Tested.{rising_selectable}
use Rattle.isel.proofs.tests.steps_have_their_words.Goals as goal

pub select-requires : goal.select-requires
select-requires g c =
    subst (λ xs. IsSelectable xs (Return (record { 0 = 5 }))) (sym (c.of.ensures ∙ c.in_ok-from_slice.ensures.items))
    (rising_selectable _ (Return (record { 0 = 5 }))
    (tt, tt, (tt, omega arith, (tt, tt, ((tt, (tt, tt)), inr (inr refl), ((tt, (tt, tt)), tt, ((tt, tt), omega arith, ((tt, tt), (λ e. cc), (tt, tt, ((tt, (tt, (tt, tt))), inr (inr (inr refl)), ((tt, tt), tt))))))))))
    ((omega arith, omega arith), ((omega arith, omega arith), ((omega arith, omega arith), ((omega arith, omega arith), ((omega arith, omega arith), (tt, (tt, (tt, ((omega arith, omega arith), tt))))))))))
