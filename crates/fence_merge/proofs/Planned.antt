-- Merged steps are the steps without their fences and with the planned ones, and placed fences change no plan.
use Rattle.std.proofs.Common.{◌≡◌, Bool, true, false, List, [], ◌∷◌, ◌++◌, map, Option, Some, None, refl, sym, ap, ◌∙◌, append_assoc}
use Rattle.std.proofs.lemmas.List.{append-nil}
use Rattle.std.proofs.lemmas.List.Concat.{flat_map-append}
use Rattle.std.specs.List.{flat_map}
use Rattle.ev_graph.specs.declared.events.FenceKind.{FenceKind}
use Rattle.x64_syntax.specs.declared.slots.Slot.{Slot}
use Rattle.x64_syntax.specs.declared.slots.SlotKind.{SlotKind}
use Rattle.x64_syntax.specs.declared.slots.SlotKind.TheVariants.{Read, Write, Locked}
use Rattle.limm_ir.specs.Steps.{fence_of}
use Rattle.limm_ir.specs.declared.step.IrFence.{IrFence}
use Rattle.limm_ir.specs.declared.step.IrFence.TheVariants.{Frm, Fww, Fsc}
use Rattle.limm_ir.specs.declared.step.IrStep.{IrStep}
use Rattle.limm_ir.specs.declared.step.IrStep.TheVariants as steps
use Rattle.fence_place.specs.Fenced.{fenced, IsFenced}
use Rattle.fence_plan.specs.Gaps.{Station, Shared, Strong, gap, gaps, gaps_from, fence_if, fences_of}
use Rattle.fence_plan.specs.Planned.{later_gaps}
use Rattle.fence_plan.specs.declared.gap.Gap.{Gap}
use Rattle.fence_merge.specs.declared.role.Role.TheVariants.{Fence}
use Rattle.fence_merge.specs.Roles.{role_stations, stations, without_fence, unfenced, behind_role, between}
use Rattle.fence_merge.specs.Merged.{step_if, gap_steps, first_steps, woven_by, woven, merged}
use Rattle.fence_merge.proofs.Views.{IsSlot, IsOther, View, a-slot, a-fence, a-other, view, around}

unfenced-append : (xs ys : List IrStep) → unfenced (xs ++ ys) ≡ unfenced xs ++ unfenced ys
unfenced-append xs ys = flat_map-append without_fence xs ys

-- fences are left out
unfenced-if : (b : Bool) (f : IrFence) (ys : List IrStep) → unfenced (step_if b f ++ ys) ≡ unfenced ys
unfenced-if true f ys = refl
unfenced-if false f ys = refl

unfenced-gap : (g : Gap) (ys : List IrStep) → unfenced (gap_steps g ++ ys) ≡ unfenced ys
unfenced-gap g ys =
    ap unfenced (append_assoc (step_if g.frm Frm) (step_if g.fww Fww ++ step_if g.fsc Fsc) ys ∙ ap (λ l. step_if g.frm Frm ++ l) (append_assoc (step_if g.fww Fww) (step_if g.fsc Fsc) ys))
    ∙ unfenced-if g.frm Frm (step_if g.fww Fww ++ (step_if g.fsc Fsc ++ ys)) ∙ unfenced-if g.fww Fww (step_if g.fsc Fsc ++ ys) ∙ unfenced-if g.fsc Fsc ys

unfenced-first : (gs : List Gap) (ys : List IrStep) → unfenced (first_steps gs ++ ys) ≡ unfenced ys
unfenced-first [] ys = refl
unfenced-first (g ∷ gs) ys = unfenced-gap g ys

module _ (private : List Slot) where
  -- one step in front, by its role
  pub woven-slot : {x : IrStep} {kind : SlotKind} → IsSlot private x kind → (xs : List IrStep) (gs : List Gap) → woven private (x ∷ xs) gs ≡ first_steps gs ++ x ∷ woven private xs (later_gaps gs)
  woven-slot {x} is xs gs = ap (λ r. woven_by r x (woven private xs) gs) is.role_is

  pub woven-other : {x : IrStep} → IsOther private x → (xs : List IrStep) (gs : List Gap) → woven private (x ∷ xs) gs ≡ x ∷ woven private xs gs
  woven-other {x} is xs gs = ap (λ r. woven_by r x (woven private xs) gs) is.role_is

  pub stations-slot : {x : IrStep} {kind : SlotKind} → IsSlot private x kind → (xs : List IrStep) → stations private (x ∷ xs) ≡ Shared kind ∷ stations private xs
  stations-slot is xs = ap (λ r. role_stations r ++ stations private xs) is.role_is

  pub stations-other : {x : IrStep} → IsOther private x → (xs : List IrStep) → stations private (x ∷ xs) ≡ stations private xs
  stations-other is xs = ap (λ r. role_stations r ++ stations private xs) is.role_is

  between-slot : {x : IrStep} {kind : SlotKind} → IsSlot private x kind → (xs : List IrStep) → between private (x ∷ xs) ≡ [] ∷ between private xs
  between-slot is xs = ap (λ r. behind_role r (between private xs)) is.role_is

  between-other : {x : IrStep} → IsOther private x → (xs : List IrStep) → between private (x ∷ xs) ≡ between private xs
  between-other is xs = ap (λ r. behind_role r (between private xs)) is.role_is

  pub kept-slot : {x : IrStep} {kind : SlotKind} → IsSlot private x kind → (xs : List IrStep) → unfenced (x ∷ xs) ≡ x ∷ unfenced xs
  kept-slot is xs = ap (λ l. l ++ unfenced xs) is.kept

  pub kept-other : {x : IrStep} → IsOther private x → (xs : List IrStep) → unfenced (x ∷ xs) ≡ x ∷ unfenced xs
  kept-other is xs = ap (λ l. l ++ unfenced xs) is.kept

  -- the steps that are no fences are those that were there
  pub unfenced-woven : (xs : List IrStep) (gs : List Gap) → unfenced (woven private xs gs) ≡ unfenced xs
  unfenced-woven [] gs = ap unfenced (sym (append-nil (first_steps gs))) ∙ unfenced-first gs []
  unfenced-woven (x ∷ xs) gs = by (view private x) (λ gs. unfenced-woven xs gs)
    where
      by : {x : IrStep} → View private x → ((gs : List Gap) → unfenced (woven private xs gs) ≡ unfenced xs) → unfenced (woven private (x ∷ xs) gs) ≡ unfenced (x ∷ xs)
      by (a-slot {x = x} is) rest =
          ap unfenced (woven-slot is xs gs) ∙ unfenced-first gs (x ∷ woven private xs (later_gaps gs)) ∙ kept-slot is (woven private xs (later_gaps gs))
          ∙ ap (λ l. x ∷ l) (rest (later_gaps gs)) ∙ sym (kept-slot is xs)
      by a-fence rest = rest gs
      by (a-other {x = x} is) rest = ap unfenced (woven-other is xs gs) ∙ kept-other is (woven private xs gs) ∙ ap (λ l. x ∷ l) (rest gs) ∙ sym (kept-other is xs)

  -- fences in front are those of the first gap
  between-if : (b : Bool) (f : IrFence) (ys : List IrStep) (first : List FenceKind) (others : List (List FenceKind))
      → between private ys ≡ first ∷ others → between private (step_if b f ++ ys) ≡ (fence_if b (fence_of f) ++ first) ∷ others
  between-if true f ys first others same = ap (λ l. behind_role (Fence f) l) same
  between-if false f ys first others same = same

  between-gap : (g : Gap) (ys : List IrStep) (first : List FenceKind) (others : List (List FenceKind))
      → between private ys ≡ first ∷ others → between private (gap_steps g ++ ys) ≡ (fences_of g ++ first) ∷ others
  between-gap g ys first others same =
      let last = step_if g.fsc Fsc ++ ys in
      let both = fence_if g.fsc (fence_of Fsc) ++ first in
      ap (between private) (append_assoc (step_if g.frm Frm) (step_if g.fww Fww ++ step_if g.fsc Fsc) ys ∙ ap (λ l. step_if g.frm Frm ++ l) (append_assoc (step_if g.fww Fww) (step_if g.fsc Fsc) ys))
      ∙ between-if g.frm Frm (step_if g.fww Fww ++ last) (fence_if g.fww (fence_of Fww) ++ both) others
      (between-if g.fww Fww last both others (between-if g.fsc Fsc ys first others same))
      ∙ ap (λ l. l ∷ others) (ap (λ l. fence_if g.frm (fence_of Frm) ++ l) (sym (append_assoc (fence_if g.fww (fence_of Fww)) (fence_if g.fsc (fence_of Fsc)) first))
      ∙ sym (append_assoc (fence_if g.frm (fence_of Frm)) (fence_if g.fww (fence_of Fww) ++ fence_if g.fsc (fence_of Fsc)) first))

  abbrev Right : List IrStep → Option SlotKind → Bool → Type 0
  Right xs before full = between private (woven private xs (gaps_from before full (stations private xs))) ≡ map fences_of (gaps_from before full (stations private xs))

  -- the fences between the steps are the planned ones
  pub between-woven : (xs : List IrStep) (before : Option SlotKind) (full : Bool)
      → between private (woven private xs (gaps_from before full (stations private xs))) ≡ map fences_of (gaps_from before full (stations private xs))
  between-woven [] before full =
      let g = gap before full None in
      ap (between private) (sym (append-nil (gap_steps g))) ∙ between-gap g [] [] [] refl ∙ ap (λ l. l ∷ []) (append-nil (fences_of g))
  between-woven (x ∷ xs) before full = by (view private x) (λ before full. between-woven xs before full)
    where
      fenced_on : (f : IrFence) → ((before : Option SlotKind) (full : Bool) → Right xs before full) → Right (steps.Fence f ∷ xs) before full
      fenced_on Frm rest = rest before full
      fenced_on Fww rest = rest before full
      fenced_on Fsc rest = rest before true

      by : {x : IrStep} → View private x → ((before : Option SlotKind) (full : Bool) → Right xs before full) → Right (x ∷ xs) before full
      by (a-slot {x = x} {kind = kind} is) rest =
          let g = gap before full (Some kind) in
          let later = gaps_from (Some kind) false (stations private xs) in
          ap (λ ss. between private (woven private (x ∷ xs) (gaps_from before full ss))) (stations-slot is xs)
          ∙ ap (between private) (woven-slot is xs (g ∷ later))
          ∙ between-gap g (x ∷ woven private xs later) [] (between private (woven private xs later)) (between-slot is (woven private xs later))
          ∙ ap (λ l. l ∷ between private (woven private xs later)) (append-nil (fences_of g))
          ∙ ap (λ l. fences_of g ∷ l) (rest (Some kind) false)
          ∙ ap (λ ss. map fences_of (gaps_from before full ss)) (sym (stations-slot is xs))
      by (a-fence {f = f}) rest = fenced_on f rest
      by (a-other {x = x} is) rest =
          ap (λ ss. between private (woven private (x ∷ xs) (gaps_from before full ss))) (stations-other is xs)
          ∙ ap (between private) (woven-other is xs (gaps_from before full (stations private xs)))
          ∙ between-other is (woven private xs (gaps_from before full (stations private xs)))
          ∙ rest before full
          ∙ ap (λ ss. map fences_of (gaps_from before full ss)) (sym (stations-other is xs))

  -- a full fence beside a locked slot changes no gap
  before_locked : (before : Option SlotKind) (full : Bool) → gap before true (Some Locked) ≡ gap before full (Some Locked)
  before_locked before true = refl
  before_locked None false = refl
  before_locked (Some Read) false = refl
  before_locked (Some Write) false = refl
  before_locked (Some Locked) false = refl

  behind_locked : (ss : List Station) → gaps_from (Some Locked) true ss ≡ gaps_from (Some Locked) false ss
  behind_locked [] = refl
  behind_locked (Strong ∷ ss) = refl
  behind_locked (Shared kind ∷ ss) = refl

  abbrev SameGaps : (xs ys : List IrStep) → Type 0
  SameGaps xs ys = (before : Option SlotKind) (full : Bool) → gaps_from before full (stations private ys) ≡ gaps_from before full (stations private xs)

  -- placed fences change no gap
  gaps_placed : (xs : List IrStep) (before : Option SlotKind) (full : Bool) → gaps_from before full (stations private (flat_map (fenced private) xs)) ≡ gaps_from before full (stations private xs)
  gaps_placed [] before full = refl
  gaps_placed (x ∷ xs) before full = by (view private x) (λ before full. gaps_placed xs before full)
    where
      placed : List IrStep
      placed = flat_map (fenced private) xs

      turn : {x : IrStep} (kind : SlotKind) → IsSlot private x kind → SameGaps xs placed
          → gaps_from before full (stations private (around kind x ++ placed)) ≡ gap before full (Some kind) ∷ gaps_from (Some kind) false (stations private xs)
      turn {x} Read is rest = ap (gaps_from before full) (stations-slot is (steps.Fence Frm ∷ placed)) ∙ ap (λ l. gap before full (Some Read) ∷ l) (rest (Some Read) false)
      turn {x} Write is rest = ap (gaps_from before full) (stations-slot is placed) ∙ ap (λ l. gap before full (Some Write) ∷ l) (rest (Some Write) false)
      turn {x} Locked is rest =
          ap (gaps_from before true) (stations-slot is (steps.Fence Fsc ∷ placed))
          ∙ ap (λ g. g ∷ gaps_from (Some Locked) true (stations private placed)) (before_locked before full)
          ∙ ap (λ l. gap before full (Some Locked) ∷ l) (behind_locked (stations private placed) ∙ rest (Some Locked) false)

      fence_on : (f : IrFence) → SameGaps xs placed → gaps_from before full (stations private (steps.Fence f ∷ placed)) ≡ gaps_from before full (stations private (steps.Fence f ∷ xs))
      fence_on Frm rest = rest before full
      fence_on Fww rest = rest before full
      fence_on Fsc rest = rest before true

      by : {x : IrStep} → View private x → SameGaps xs placed → gaps_from before full (stations private (fenced private x ++ placed)) ≡ gaps_from before full (stations private (x ∷ xs))
      by (a-slot {kind = kind} is) rest =
          ap (λ l. gaps_from before full (stations private (l ++ placed))) is.placed ∙ turn kind is rest ∙ ap (gaps_from before full) (sym (stations-slot is xs))
      by (a-fence {f = f}) rest = fence_on f rest
      by (a-other is) rest =
          ap (λ l. gaps_from before full (stations private (l ++ placed))) is.placed ∙ ap (gaps_from before full) (stations-other is placed) ∙ rest before full
          ∙ ap (gaps_from before full) (sym (stations-other is xs))

  abbrev SameWoven : (xs ys : List IrStep) → Type 0
  SameWoven xs ys = (gs : List Gap) → woven private ys gs ≡ woven private xs gs

  -- and no merged step
  woven_placed : (xs : List IrStep) (gs : List Gap) → woven private (flat_map (fenced private) xs) gs ≡ woven private xs gs
  woven_placed [] gs = refl
  woven_placed (x ∷ xs) gs = by (view private x) (λ gs. woven_placed xs gs)
    where
      placed : List IrStep
      placed = flat_map (fenced private) xs

      turn : {x : IrStep} (kind : SlotKind) → IsSlot private x kind → woven private (around kind x ++ placed) gs ≡ first_steps gs ++ x ∷ woven private placed (later_gaps gs)
      turn Read is = woven-slot is (steps.Fence Frm ∷ placed) gs
      turn Write is = woven-slot is placed gs
      turn Locked is = woven-slot is (steps.Fence Fsc ∷ placed) gs

      by : {x : IrStep} → View private x → SameWoven xs placed → woven private (fenced private x ++ placed) gs ≡ woven private (x ∷ xs) gs
      by (a-slot {x = x} {kind = kind} is) rest =
          ap (λ l. woven private (l ++ placed) gs) is.placed ∙ turn kind is ∙ ap (λ l. first_steps gs ++ x ∷ l) (rest (later_gaps gs)) ∙ sym (woven-slot is xs gs)
      by a-fence rest = rest gs
      by (a-other {x = x} is) rest =
          ap (λ l. woven private (l ++ placed) gs) is.placed ∙ woven-other is placed gs ∙ ap (λ l. x ∷ l) (rest gs) ∙ sym (woven-other is xs gs)

  -- placing changes no plan
  pub placed_gaps : (xs ys : List IrStep) → IsFenced private xs ys → gaps (stations private ys) ≡ gaps (stations private xs)
  placed_gaps xs ys same = ap (λ l. gaps (stations private l)) same ∙ gaps_placed xs None false

  -- steps are merged alike, with placed fences and without
  pub merged_placed : (xs ys : List IrStep) → IsFenced private xs ys → merged private ys ≡ merged private xs
  merged_placed xs ys same =
      ap (merged private) same ∙ ap (woven private (flat_map (fenced private) xs)) (gaps_placed xs None false) ∙ woven_placed xs (gaps (stations private xs))
