-- Merged steps keep accesses with their places, inputs and outputs.
use Rattle.std.proofs.Common.{◌≡◌, ℕ, ◌+◌, ◌≤◌, Bool, true, false, List, [], ◌∷◌, ◌++◌, Option, Some, None, length, refl, sym, ap, ◌∙◌, subst, arith}
use Rattle.behavior.specs.Tree.{Tree, Next, ◌then◌}
use Rattle.behavior.specs.Acts.{Permission, goes}
use Rattle.behavior.specs.Seen.{placed}
use Rattle.std.proofs.lemmas.List.{append-nil}
use Rattle.behavior.specs.Kept.{SameNext, both-go, Keeps}
use Rattle.behavior.proofs.Results.{results_any, self_then}
use Rattle.behavior.proofs.Ticks.{ticks-then, earn_many}
use Rattle.behavior.proofs.SeenLemmas.{sees-placed}
use Rattle.behavior.proofs.Beside.{Beside, give, spend, only-source, beside_keeps, more_credit, spend_many}
use Rattle.behavior.proofs.ActsLemmas.{beside_target_fence}
use Rattle.x64_syntax.specs.declared.slots.Slot.{Slot}
use Rattle.x64_syntax.specs.declared.slots.SlotKind.{SlotKind}
use Rattle.limm_ir.specs.Costs.{step_cost, fence_cost, fenced_cost}
use Rattle.limm_ir.specs.Steps.{IrState, fence_of, ir_step, ir_steps}
use Rattle.limm_ir.specs.declared.step.IrFence.{IrFence}
use Rattle.limm_ir.specs.declared.step.IrFence.TheVariants.{Frm, Fww, Fsc}
use Rattle.limm_ir.specs.declared.step.IrStep.{IrStep}
use Rattle.limm_ir.specs.declared.step.IrStep.TheVariants as steps
use Rattle.fence_place.specs.Fenced.{IsSameState, KeepsPlaced}
use Rattle.fence_plan.specs.Gaps.{gap, gaps_from}
use Rattle.fence_plan.specs.declared.gap.Gap.{Gap}
use Rattle.fence_merge.specs.Roles.{stations}
use Rattle.fence_merge.specs.Merged.{gap_steps, woven, merged}
use Rattle.fence_merge.proofs.Counted.{gap_fences, as_steps, gap_steps-are, left_over, gap_paid}
use Rattle.fence_merge.proofs.Views.{View, a-slot, a-fence, a-other, view, behind_cost}
use Rattle.fence_merge.proofs.Planned.{woven-slot, woven-other, stations-slot, stations-other}

-- what is done side by side, with a credit
abbrev Side : ℕ → Tree (Next IrState) → Tree (Next IrState) → Type 0
Side = Beside placed 1 (SameNext IsSameState)

module _ (private : List Slot) (may : Permission) where
  abbrev Alike : ℕ → List IrStep → List IrStep → IrState → Type 0
  Alike credit xs ys s = Side credit (ir_steps fenced_cost may xs s) (ir_steps step_cost may ys s)

  -- fences in front of the target are paid by the credit
  fences_first : (fs : List IrFence) (credit many : ℕ) (p : Tree (Next IrState)) (ys : List IrStep) (s : IrState) → credit + length fs ≤ many
      → Side credit p (ir_steps step_cost may ys s) → Side many p (ir_steps step_cost may (as_steps fs ++ ys) s)
  fences_first [] credit many p ys s le beside = more_credit placed sees-placed 1 (SameNext IsSameState) many (omega (arith, le)) beside
  fences_first (f ∷ fs) credit many p ys s le beside =
      spend {less = credit + length fs} (omega (arith, le))
      (beside_target_fence placed 1 IsSameState (ir_steps step_cost may (as_steps fs ++ ys)) (credit + length fs) (fence_of f) 0 p (goes s) refl
      (fences_first fs credit (credit + length fs) p ys s (omega arith) beside))

  -- a step in front of both, with fences before it in the target: it pays for itself, for these and for what is left
  step_first : (x : IrStep) (fs : List IrFence) (few : ℕ) (xs ys : List IrStep) (s : IrState) (many : ℕ) → few + length fs ≤ many + fence_cost x → ((t : IrState) → Alike few xs ys t)
      → Alike many (x ∷ xs) (as_steps fs ++ x ∷ ys) s
  step_first x fs few xs ys s many le later =
      subst (λ p. Side many p (ir_steps step_cost may (as_steps fs ++ x ∷ ys) s)) (sym (ticks-then (fenced_cost x) (ir_step may x s) (ir_steps fenced_cost may xs)))
      (earn_many placed sees-placed 1 (SameNext IsSameState) (fenced_cost x) many (many + fenced_cost x) (omega arith)
      (fences_first fs (few + step_cost x) (many + fenced_cost x) (ir_step may x s then ir_steps fenced_cost may xs) (x ∷ ys) s (omega (arith, le))
      (subst (λ q. Side (few + step_cost x) (ir_step may x s then ir_steps fenced_cost may xs) q) (sym (ticks-then (step_cost x) (ir_step may x s) (ir_steps step_cost may ys)))
      (spend_many placed sees-placed 1 (SameNext IsSameState) (step_cost x) few (few + step_cost x) (omega arith)
      (self_then placed 1 (omega arith) (λ s. Unit {0}) IsSameState few (ir_step may x s) (ir_steps fenced_cost may xs) (ir_steps step_cost may ys) (results_any (ir_step may x s))
      (λ t known. later t))))))

  -- a fence of the source alone
  source_fence : (f : IrFence) (xs ys : List IrStep) (s : IrState) (few many : ℕ) → few ≤ many + 1 → Alike few xs ys s → Alike many (steps.Fence f ∷ xs) ys s
  source_fence f xs ys s few many le beside =
      subst (λ p. Side many p (ir_steps step_cost may ys s)) (sym (ticks-then (fenced_cost (steps.Fence f)) (ir_step may (steps.Fence f) s) (ir_steps fenced_cost may xs)))
      (earn_many placed sees-placed 1 (SameNext IsSameState) (fenced_cost (steps.Fence f)) many (many + 1) (omega arith)
      (only-source (omega arith) (λ v lt. refl) (λ v lt. more_credit placed sees-placed 1 (SameNext IsSameState) (many + 1) le beside)))

  abbrev Later : List IrStep → Type 0
  Later xs = (before : Option SlotKind) (full : Bool) (s : IrState) → Alike (left_over before full) xs (woven private xs (gaps_from before full (stations private xs))) s

  woven_beside : (xs : List IrStep) (before : Option SlotKind) (full : Bool) (s : IrState) → Alike (left_over before full) xs (woven private xs (gaps_from before full (stations private xs))) s
  woven_beside [] before full s =
      let g = gap before full None in
      subst (λ ys. Alike (left_over before full) [] ys s) (ended g)
      (fences_first (gap_fences g) 0 (left_over before full) (goes s) [] s (omega (arith, gap_paid before full None)) (give (both-go refl)))
    where
      ended : (g : Gap) → as_steps (gap_fences g) ++ [] ≡ gap_steps g
      ended g = append-nil (as_steps (gap_fences g)) ∙ sym (gap_steps-are g)
  woven_beside (x ∷ xs) before full s = by (view private x) (λ before full s. woven_beside xs before full s)
    where
      fence_on : (f : IrFence) → Later xs → Alike (left_over before full) (steps.Fence f ∷ xs) (woven private (steps.Fence f ∷ xs) (gaps_from before full (stations private (steps.Fence f ∷ xs)))) s
      fence_on Frm rest = source_fence Frm xs (woven private xs (gaps_from before full (stations private xs))) s (left_over before full) (left_over before full) (omega arith) (rest before full s)
      fence_on Fww rest = source_fence Fww xs (woven private xs (gaps_from before full (stations private xs))) s (left_over before full) (left_over before full) (omega arith) (rest before full s)
      fence_on Fsc rest = source_fence Fsc xs (woven private xs (gaps_from before true (stations private xs))) s 1 (left_over before full) (omega arith) (rest before true s)

      by : {x : IrStep} → View private x → Later xs → Alike (left_over before full) (x ∷ xs) (woven private (x ∷ xs) (gaps_from before full (stations private (x ∷ xs)))) s
      by (a-slot {x = x} {kind = kind} is) rest =
          let g = gap before full (Some kind) in
          let later = gaps_from (Some kind) false (stations private xs) in
          let same : as_steps (gap_fences g) ++ x ∷ woven private xs later ≡ woven private (x ∷ xs) (gaps_from before full (stations private (x ∷ xs))) =
          ap (λ l. l ++ x ∷ woven private xs later) (sym (gap_steps-are g)) ∙ sym (woven-slot private is xs (g ∷ later))
          ∙ sym (ap (λ ss. woven private (x ∷ xs) (gaps_from before full ss)) (stations-slot private is xs)) in
          subst (λ ys. Alike (left_over before full) (x ∷ xs) ys s) same
          (step_first x (gap_fences g) (behind_cost kind) xs (woven private xs later) s (left_over before full) (omega (arith, gap_paid before full (Some kind), is.costs))
          (λ t. rest (Some kind) false t))
      by (a-fence {f = f}) rest = fence_on f rest
      by (a-other {x = x} is) rest =
          let same : x ∷ woven private xs (gaps_from before full (stations private xs)) ≡ woven private (x ∷ xs) (gaps_from before full (stations private (x ∷ xs))) =
          sym (woven-other private is xs (gaps_from before full (stations private xs))) ∙ sym (ap (λ ss. woven private (x ∷ xs) (gaps_from before full ss)) (stations-other private is xs)) in
          subst (λ ys. Alike (left_over before full) (x ∷ xs) ys s) same
          (step_first x [] (left_over before full) xs (woven private xs (gaps_from before full (stations private xs))) s (left_over before full) (omega arith) (λ t. rest before full t))

-- merged steps mean the steps
pub merged_keeps : (private : List Slot) (xs ys : List IrStep) → ys ≡ merged private xs → KeepsPlaced xs ys
merged_keeps private xs ys same may s =
    subst (λ l. Keeps placed 1 0 (SameNext IsSameState) (ir_steps fenced_cost may xs s) (ir_steps step_cost may l s)) (sym same)
    (beside_keeps placed sees-placed 1 (SameNext IsSameState) (woven_beside private may xs None false s))
