-- The steps of lifted instructions count for the plan what the instructions count.
use Rattle.std.proofs.Common.{◌≡◌, ℕ, ◌+◌, Bool, true, false, List, [], ◌∷◌, ◌++◌, refl, sym, ap, ◌∙◌}
use Rattle.std.specs.Prelude.{flat_map, if◌then◌else◌}
use Rattle.std.proofs.lemmas.List.Concat.{flat_map-append}
use Rattle.x64_syntax.specs.Slots.{placed_slots}
use Rattle.x64_syntax.specs.declared.instr.Instr.{Instr}
use Rattle.x64_syntax.specs.declared.instr.Instr.TheVariants as instr
use Rattle.x64_syntax.specs.declared.placed.Placed.{Placed}
use Rattle.x64_syntax.specs.declared.slots.Slot.{Slot}
use Rattle.x64_syntax.specs.declared.slots.SlotKind.TheVariants.{Read, Write, Locked}
use Rattle.limm_ir.specs.declared.step.IrFence.{IrFence}
use Rattle.limm_ir.specs.declared.step.IrFence.TheVariants.{Frm, Fww, Fsc}
use Rattle.limm_ir.specs.declared.step.IrStep.{IrStep}
use Rattle.limm_ir.specs.declared.step.IrStep.TheVariants as steps
use Rattle.lift_alu.specs.Marks.{step_slots, step_fences, instr_fences}
use Rattle.lift_alu.specs.Meant.{AreStepsOf}
use Rattle.lift.specs.Block.{AreStepsFrom}
use Rattle.fence_place.specs.Marked.{marked}
use Rattle.fence_plan.specs.Gaps.{Station, Shared, Strong}
use Rattle.fence_merge.specs.Roles.{boundary_unless, role, role_stations, stations}
use Rattle.carry_spec.specs.Plan.{station, strong, stations_of}

-- whether a slot is private, asked of steps and of slots
asked : (b : Bool) (s : Slot) → role_stations (boundary_unless b s.kind) ≡ (if b then [] else Shared s.kind ∷ [])
asked true s = refl
asked false s = refl

module _ (private : List Slot) where
  -- what a step that is no fence counts is what its slot counts
  abbrev Counted : List IrStep → Type 0
  Counted xs = flat_map step_fences xs ≡ [] → stations private xs ≡ flat_map (station (marked private)) (flat_map step_slots xs)

  -- one slot, and what follows
  slot_first : (s : Slot) (front : List Station) (xs : List IrStep) → front ≡ station (marked private) s → stations private xs ≡ flat_map (station (marked private)) (flat_map step_slots xs)
      → front ++ stations private xs ≡ station (marked private) s ++ flat_map (station (marked private)) (flat_map step_slots xs)
  slot_first s front xs same rest = ap (λ l. l ++ stations private xs) same ∙ ap (λ l. station (marked private) s ++ l) rest

  counted : (xs : List IrStep) → Counted xs
  counted [] none = refl
  counted (steps.Load t a size place ∷ xs) none =
      let s : Slot = record { address = place; kind = Read } in
      slot_first s (role_stations (role private (steps.Load t a size place))) xs (asked (marked private s) s) (counted xs none)
  counted (steps.Store a v size place ∷ xs) none =
      let s : Slot = record { address = place; kind = Write } in
      slot_first s (role_stations (role private (steps.Store a v size place))) xs (asked (marked private s) s) (counted xs none)
  counted (steps.Rmw op t a v size place ∷ xs) none = ap (λ l. Shared Locked ∷ l) (counted xs none)
  counted (steps.Cas t a e v size place ∷ xs) none = ap (λ l. Shared Locked ∷ l) (counted xs none)
  counted (steps.Fence f ∷ xs) none = absurd cc
  counted (steps.Const t v ∷ xs) none = counted xs none
  counted (steps.GetReg t r ∷ xs) none = counted xs none
  counted (steps.SetReg r t ∷ xs) none = counted xs none
  counted (steps.GetFlag t f ∷ xs) none = counted xs none
  counted (steps.SetFlag f t ∷ xs) none = counted xs none
  counted (steps.Op op t a b ∷ xs) none = counted xs none
  counted (steps.Select t c a b ∷ xs) none = counted xs none
  counted (steps.Input ∷ xs) none = counted xs none
  counted (steps.Output ∷ xs) none = counted xs none
  counted (steps.TrapIf t kind ∷ xs) none = counted xs none

  -- steps without an access, with one full fence
  fence_counted : (xs : List IrStep) → flat_map step_slots xs ≡ [] → flat_map step_fences xs ≡ Fsc ∷ [] → stations private xs ≡ Strong ∷ []
  fence_counted [] none one = absurd cc
  fence_counted (steps.Load t a size place ∷ xs) none one = absurd cc
  fence_counted (steps.Store a v size place ∷ xs) none one = absurd cc
  fence_counted (steps.Rmw op t a v size place ∷ xs) none one = absurd cc
  fence_counted (steps.Cas t a e v size place ∷ xs) none one = absurd cc
  fence_counted (steps.Fence Fsc ∷ xs) none one = ap (λ l. Strong ∷ l) (counted xs (no_more one) ∙ ap (flat_map (station (marked private))) none)
    where
      no_more : {fs : List IrFence} → Fsc ∷ fs ≡ Fsc ∷ [] → fs ≡ []
      no_more e = cc
  fence_counted (steps.Fence Frm ∷ xs) none one = absurd cc
  fence_counted (steps.Fence Fww ∷ xs) none one = absurd cc
  fence_counted (steps.Const t v ∷ xs) none one = fence_counted xs none one
  fence_counted (steps.GetReg t r ∷ xs) none one = fence_counted xs none one
  fence_counted (steps.SetReg r t ∷ xs) none one = fence_counted xs none one
  fence_counted (steps.GetFlag t f ∷ xs) none one = fence_counted xs none one
  fence_counted (steps.SetFlag f t ∷ xs) none one = fence_counted xs none one
  fence_counted (steps.Op op t a b ∷ xs) none one = fence_counted xs none one
  fence_counted (steps.Select t c a b ∷ xs) none one = fence_counted xs none one
  fence_counted (steps.Input ∷ xs) none one = fence_counted xs none one
  fence_counted (steps.Output ∷ xs) none one = fence_counted xs none one
  fence_counted (steps.TrapIf t kind ∷ xs) none one = fence_counted xs none one

  -- the steps of one instruction
  of_instr : (p : Placed) (temps : ℕ) (xs : List IrStep) → AreStepsOf p temps xs → stations private xs ≡ stations_of (marked private) p
  of_instr p temps xs are = by p.instr are.fences refl
    where
      by : (i : Instr) → flat_map step_fences xs ≡ instr_fences i → p.instr ≡ i → stations private xs ≡ strong i ++ flat_map (station (marked private)) (placed_slots p)
      by instr.Mfence one same = fence_counted xs (are.slots ∙ none p same) one ∙ ap (λ l. Strong ∷ flat_map (station (marked private)) l) (sym (none p same))
        where
          none : (p : Placed) → p.instr ≡ instr.Mfence → placed_slots p ≡ []
          none p same = ap (λ i. placed_slots (record p { instr = i })) same
      by i nothing same = counted xs nothing ∙ ap (flat_map (station (marked private))) are.slots

  -- the steps of instructions, one behind the other
  pub steps_count : (temps : ℕ) (ps : List Placed) (xs : List IrStep) → AreStepsFrom temps ps xs → stations private xs ≡ flat_map (stations_of (marked private)) ps
  steps_count temps [] xs are = ap (stations private) are
  steps_count temps (p ∷ ps) xs (here, later, same, of, rest) =
      ap (stations private) same
      ∙ flat_map-append (λ x. role_stations (role private x)) here later
      ∙ ap (λ l. l ++ stations private later) (of_instr p temps here of)
      ∙ ap (λ l. stations_of (marked private) p ++ l) (steps_count (temps + 256) ps later rest)
