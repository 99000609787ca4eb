use Rattle.std.proofs.Common.{arith, inr, refl, sym, subst, ◌∙◌}
use Rattle.limm_ir.specs.Conditions.{IsSelectable}
use Rattle.limm_ir.specs.declared.block.IrEnd.TheVariants.{Goto}
use Rattle.isel.proofs.Tested.{rising_selectable}
use Rattle.isel.proofs.tests.store_buffering_has_its_words.Goals as goal

pub select-requires : goal.select-requires
select-requires g c =
    subst (λ xs. IsSelectable xs (Goto 4198421)) (sym (c.of.ensures ∙ c.in_ok-from_slice.ensures.items))
    (rising_selectable _ (Goto 4198421)
    (tt, omega arith, (tt, omega arith, (tt, tt, ((tt, (tt, tt)), inr (inr (inr refl)), (tt, omega arith, ((tt, tt), inr (inr (inr refl)), (tt, tt, ((tt, tt), omega arith, (tt, tt)))))))))
    ((omega arith, omega arith), ((omega arith, omega arith), (tt, (tt, ((omega arith, omega arith), ((omega arith, omega arith), (tt, (tt, tt)))))))))
