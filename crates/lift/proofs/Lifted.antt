-- Instructions that are lifted one behind the other, as one block.
use Rattle.std.proofs.Common.{◌≡◌, List, [], ◌∷◌, sym, subst, arith}
use Rattle.x64_syntax.specs.declared.placed.Placed.{Placed}
use Rattle.limm_ir.specs.Conditions.{IsSelectable}
use Rattle.limm_ir.specs.declared.block.IrEnd.{IrEnd}
use Rattle.limm_ir.specs.declared.step.IrStep.{IrStep}
use Rattle.lift.specs.Block.{AreLifted, AreStepsFrom, LiftsBlock, end_from}
use Rattle.lift.proofs.Meaning.{block_means}
use Rattle.lift.proofs.Selectable.{block_selectable}

-- the block does what the instructions do
pub lifted_means : (ps : List Placed) (steps : List IrStep) (end : IrEnd) → AreLifted ps → AreStepsFrom 0 ps steps → end ≡ end_from 0 ps → LiftsBlock ps steps end
lifted_means [] steps end lifted are same = absurd (omega (arith, lifted.some))
lifted_means (p ∷ ps) steps end lifted are same = subst (LiftsBlock (p ∷ ps) steps) (sym same) (block_means p ps 0 steps lifted.follow lifted.lead_on are)

-- it may be selected
pub lifted_selectable : (ps : List Placed) (steps : List IrStep) (end : IrEnd) → AreLifted ps → AreStepsFrom 0 ps steps → end ≡ end_from 0 ps → IsSelectable steps end
lifted_selectable [] steps end lifted are same = absurd (omega (arith, lifted.some))
lifted_selectable (p ∷ ps) steps end lifted are same = subst (IsSelectable steps) (sym same) (block_selectable p ps 0 steps are)
