-- What the fences of gaps cost.
use Rattle.std.proofs.Common.{◌≡◌, ℕ, ◌+◌, ◌≤◌, Bool, true, false, List, [], ◌∷◌, ◌++◌, Option, Some, None, length, refl, sym, ap, ◌∙◌, arith}
use Rattle.x64_syntax.specs.declared.slots.Slot.{Slot}
use Rattle.x64_syntax.specs.declared.slots.SlotKind.{SlotKind}
use Rattle.x64_syntax.specs.declared.slots.SlotKind.TheVariants.{Read, Write, Locked}
use Rattle.limm_ir.specs.Costs.{cost_of, step_cost, fenced_cost}
use Rattle.limm_ir.specs.declared.step.IrFence.{IrFence}
use Rattle.limm_ir.specs.declared.step.IrFence.TheVariants.{Frm, Fww, Fsc}
use Rattle.limm_ir.specs.declared.step.IrStep.{IrStep}
use Rattle.limm_ir.specs.declared.step.IrStep.TheVariants as steps
use Rattle.limm_ir.proofs.CallerLemmas.{cost_of-append}
use Rattle.fence_plan.specs.Gaps.{Shared, gap, gaps_from}
use Rattle.fence_plan.specs.declared.gap.Gap.{Gap}
use Rattle.fence_merge.specs.Roles.{stations}
use Rattle.fence_merge.specs.Merged.{step_if, gap_steps, woven}
use Rattle.fence_merge.proofs.Views.{IsSlot, IsOther, View, a-slot, a-fence, a-other, view, before_cost, behind_cost}
use Rattle.fence_merge.proofs.Planned.{woven-slot, woven-other, stations-slot, stations-other}

-- a fence of a gap
abbrev pub fence_list : Bool → IrFence → List IrFence
fence_list true f = f ∷ []
fence_list false f = []

-- the fences of a gap
abbrev pub gap_fences : Gap → List IrFence
gap_fences g = fence_list g.frm Frm ++ (fence_list g.fww Fww ++ fence_list g.fsc Fsc)

-- fences as steps
abbrev pub as_steps : List IrFence → List IrStep
as_steps [] = []
as_steps (f ∷ fs) = steps.Fence f ∷ as_steps fs

pub as_steps-append : (fs gs : List IrFence) → as_steps (fs ++ gs) ≡ as_steps fs ++ as_steps gs
as_steps-append [] gs = refl
as_steps-append (f ∷ fs) gs = ap (λ l. steps.Fence f ∷ l) (as_steps-append fs gs)

as_steps-if : (b : Bool) (f : IrFence) → as_steps (fence_list b f) ≡ step_if b f
as_steps-if true f = refl
as_steps-if false f = refl

pub gap_steps-are : (g : Gap) → gap_steps g ≡ as_steps (gap_fences g)
gap_steps-are g =
    let one = fence_list g.frm Frm in
    let two = fence_list g.fww Fww in
    let three = fence_list g.fsc Fsc in
    ap (λ l. l ++ (step_if g.fww Fww ++ step_if g.fsc Fsc)) (sym (as_steps-if g.frm Frm))
    ∙ ap (λ l. as_steps one ++ (l ++ step_if g.fsc Fsc)) (sym (as_steps-if g.fww Fww))
    ∙ ap (λ l. as_steps one ++ (as_steps two ++ l)) (sym (as_steps-if g.fsc Fsc))
    ∙ sym (ap (λ l. as_steps one ++ l) (as_steps-append two three))
    ∙ sym (as_steps-append one (two ++ three))

fences_cost : (fs : List IrFence) → cost_of step_cost (as_steps fs) ≡ length fs
fences_cost [] = refl
fences_cost (f ∷ fs) = omega (arith, fences_cost fs)

-- what is left of what was paid for fences in a gap that lasts
abbrev pub left_over : Option SlotKind → (full : Bool) → ℕ
left_over before true = 1
left_over None false = 0
left_over (Some kind) false = behind_cost kind

-- what the slot that ends a gap pays for its fences
abbrev pub pays_before : Option SlotKind → ℕ
pays_before None = 0
pays_before (Some kind) = before_cost kind

-- which is enough
pub gap_paid : (before : Option SlotKind) (full : Bool) (after : Option SlotKind) → length (gap_fences (gap before full after)) ≤ left_over before full + pays_before after
gap_paid before true after = omega arith
gap_paid None false None = omega arith
gap_paid None false (Some Read) = omega arith
gap_paid None false (Some Write) = omega arith
gap_paid None false (Some Locked) = omega arith
gap_paid (Some Read) false None = omega arith
gap_paid (Some Read) false (Some Read) = omega arith
gap_paid (Some Read) false (Some Write) = omega arith
gap_paid (Some Read) false (Some Locked) = omega arith
gap_paid (Some Write) false None = omega arith
gap_paid (Some Write) false (Some Read) = omega arith
gap_paid (Some Write) false (Some Write) = omega arith
gap_paid (Some Write) false (Some Locked) = omega arith
gap_paid (Some Locked) false None = omega arith
gap_paid (Some Locked) false (Some Read) = omega arith
gap_paid (Some Locked) false (Some Write) = omega arith
gap_paid (Some Locked) false (Some Locked) = omega arith

pub left_most : (before : Option SlotKind) (full : Bool) → left_over before full ≤ 1
left_most before true = omega arith
left_most None false = omega arith
left_most (Some Read) false = omega arith
left_most (Some Write) false = omega arith
left_most (Some Locked) false = omega arith

-- merged steps cost no more than the steps with what their fences may cost
module _ (private : List Slot) where
  abbrev Few : List IrStep → Option SlotKind → Bool → Type 0
  Few xs before full = cost_of step_cost (woven private xs (gaps_from before full (stations private xs))) ≤ left_over before full + cost_of fenced_cost xs

  pub woven_few : (xs : List IrStep) (before : Option SlotKind) (full : Bool) → Few xs before full
  woven_few [] before full =
      let g = gap before full None in
      omega (arith, gap_paid before full None, ap (cost_of step_cost) (gap_steps-are g), fences_cost (gap_fences g))
  woven_few (x ∷ xs) before full = by (view private x) (λ before full. woven_few xs before full)
    where
      fence_on : (f : IrFence) → ((before : Option SlotKind) (full : Bool) → Few xs before full) → Few (steps.Fence f ∷ xs) before full
      fence_on Frm rest = omega (arith, rest before full)
      fence_on Fww rest = omega (arith, rest before full)
      fence_on Fsc rest = omega (arith, rest before true)

      slot : {x : IrStep} {kind : SlotKind} → IsSlot private x kind → ((before : Option SlotKind) (full : Bool) → Few xs before full) → Few (x ∷ xs) before full
      slot {x} {kind} is rest =
          let g = gap before full (Some kind) in
          let later = woven private xs (gaps_from (Some kind) false (stations private xs)) in
          let same : woven private (x ∷ xs) (gaps_from before full (stations private (x ∷ xs))) ≡ gap_steps g ++ x ∷ later =
          ap (λ ss. woven private (x ∷ xs) (gaps_from before full ss)) (stations-slot private is xs) ∙ woven-slot private is xs (gaps_from before full (Shared kind ∷ stations private xs)) in
          let fences = cost_of-append step_cost (gap_steps g) (x ∷ later) in
          omega (arith, gap_paid before full (Some kind), ap (cost_of step_cost) (gap_steps-are g), fences_cost (gap_fences g), fences, ap (cost_of step_cost) same, rest (Some kind) false, is.costs)

      other : {x : IrStep} → IsOther private x → ((before : Option SlotKind) (full : Bool) → Few xs before full) → Few (x ∷ xs) before full
      other {x} is rest =
          let same : woven private (x ∷ xs) (gaps_from before full (stations private (x ∷ xs))) ≡ x ∷ woven private xs (gaps_from before full (stations private xs)) =
          ap (λ ss. woven private (x ∷ xs) (gaps_from before full ss)) (stations-other private is xs) ∙ woven-other private is xs (gaps_from before full (stations private xs)) in
          omega (arith, ap (cost_of step_cost) same, rest before full)

      by : {x : IrStep} → View private x → ((before : Option SlotKind) (full : Bool) → Few xs before full) → Few (x ∷ xs) before full
      by (a-slot is) rest = slot is rest
      by (a-fence {f = f}) rest = fence_on f rest
      by (a-other is) rest = other is rest
