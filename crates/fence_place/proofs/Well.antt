-- Steps with fences are well made where the steps are.
use Rattle.std.proofs.Common.{◌≡◌, Bool, true, false, ℕ, List, [], ◌∷◌, ◌++◌, refl, sym, subst}
use mathlib.Core.Path.{fun_ext}
use Rattle.std.specs.Prelude.{if◌then◌else◌, None}
use Rattle.std.specs.List.{flat_map}
use Rattle.x64_syntax.specs.declared.slots.Slot.{Slot}
use Rattle.x64_syntax.specs.declared.slots.SlotKind.TheVariants.{Read, Write}
use Rattle.limm_ir.specs.declared.block.IrEnd.{IrEnd}
use Rattle.limm_ir.specs.declared.step.IrStep.{IrStep}
use Rattle.limm_ir.specs.declared.step.IrStep.TheVariants as steps
use Rattle.limm_ir.specs.declared.step.IrFence.{IrFence}
use Rattle.limm_ir.specs.declared.step.IrFence.TheVariants.{Frm, Fww, Fsc}
use Rattle.limm_ir.specs.Conditions.{Known, Set, know, learn, IsWell}
use Rattle.fence_place.specs.Marked.{marked}
use Rattle.fence_place.specs.Fenced.{fenced}

module _ (end : IrEnd) where
  with_fence : (f : IrFence) (known : ℕ → Known) (ys : List IrStep) → IsWell end known ys → IsWell end known (steps.Fence f ∷ ys)
  with_fence f known ys well = let same : know None Set known ≡ known = fun_ext (λ t. refl) in (tt, tt, subst (λ k. IsWell end k ys) (sym same) well)

  either : (b : Bool) (xs ys rest : List IrStep) (known : ℕ → Known) → IsWell end known (xs ++ rest) → IsWell end known (ys ++ rest) → IsWell end known ((if b then xs else ys) ++ rest)
  either true xs ys rest known first second = first
  either false xs ys rest known first second = second

  pub fences_well : (private : List Slot) (xs : List IrStep) (known : ℕ → Known) → IsWell end known xs → IsWell end known (flat_map (fenced private) xs)
  fences_well private [] known well = well
  fences_well private (steps.Load t a size place ∷ xs) known well =
      let x = steps.Load t a size place in
      let rest = flat_map (fenced private) xs in
      let later = fences_well private xs (learn x known) well.2 in
      either (marked private (record { address = place; kind = Read })) (x ∷ []) (x ∷ steps.Fence Frm ∷ []) rest known
      (well.0, well.1, later) (well.0, well.1, with_fence Frm (learn x known) rest later)
  fences_well private (steps.Store a v size place ∷ xs) known well =
      let x = steps.Store a v size place in
      let rest = flat_map (fenced private) xs in
      let later = fences_well private xs (learn x known) well.2 in
      either (marked private (record { address = place; kind = Write })) (x ∷ []) (steps.Fence Fww ∷ x ∷ []) rest known
      (well.0, well.1, later) (with_fence Fww known (x ∷ rest) (well.0, well.1, later))
  fences_well private (steps.Rmw op t a v size place ∷ xs) known well =
      let x = steps.Rmw op t a v size place in
      let rest = flat_map (fenced private) xs in
      with_fence Fsc known (x ∷ steps.Fence Fsc ∷ rest) (well.0, well.1, with_fence Fsc (learn x known) rest (fences_well private xs (learn x known) well.2))
  fences_well private (steps.Cas t a e v size place ∷ xs) known well =
      let x = steps.Cas t a e v size place in
      let rest = flat_map (fenced private) xs in
      with_fence Fsc known (x ∷ steps.Fence Fsc ∷ rest) (well.0, well.1, with_fence Fsc (learn x known) rest (fences_well private xs (learn x known) well.2))
  fences_well private (steps.Const t v ∷ xs) known well = (well.0, well.1, fences_well private xs (learn (steps.Const t v) known) well.2)
  fences_well private (steps.GetReg t r ∷ xs) known well = (well.0, well.1, fences_well private xs (learn (steps.GetReg t r) known) well.2)
  fences_well private (steps.SetReg r t ∷ xs) known well = (well.0, well.1, fences_well private xs (learn (steps.SetReg r t) known) well.2)
  fences_well private (steps.GetFlag t f ∷ xs) known well = (well.0, well.1, fences_well private xs (learn (steps.GetFlag t f) known) well.2)
  fences_well private (steps.SetFlag f t ∷ xs) known well = (well.0, well.1, fences_well private xs (learn (steps.SetFlag f t) known) well.2)
  fences_well private (steps.Op op t a b ∷ xs) known well = (well.0, well.1, fences_well private xs (learn (steps.Op op t a b) known) well.2)
  fences_well private (steps.Select t c a b ∷ xs) known well = (well.0, well.1, fences_well private xs (learn (steps.Select t c a b) known) well.2)
  fences_well private (steps.Fence f ∷ xs) known well = (well.0, well.1, fences_well private xs (learn (steps.Fence f) known) well.2)
  fences_well private (steps.Input ∷ xs) known well = (well.0, well.1, fences_well private xs (learn steps.Input known) well.2)
  fences_well private (steps.Output ∷ xs) known well = (well.0, well.1, fences_well private xs (learn steps.Output known) well.2)
  fences_well private (steps.TrapIf t kind ∷ xs) known well = (well.0, well.1, fences_well private xs (learn (steps.TrapIf t kind) known) well.2)
