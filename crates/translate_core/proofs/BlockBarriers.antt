-- The barriers of a block are those that the plan of its instructions asks for.
use Rattle.std.proofs.Common.{◌≡◌, Bool, true, false, List, [], ◌∷◌, ◌++◌, map, refl, sym, ap, ◌∙◌}
use Rattle.std.specs.Prelude.{flat_map}
use Rattle.std.proofs.lemmas.List.Concat.{flat_map-cons}
use Rattle.std.proofs.lemmas.List.Folds.{flat_map-map}
use Rattle.ev_graph.specs.declared.events.FenceKind.{FenceKind}
use Rattle.behavior.specs.Seen.{barrier}
use Rattle.x64_syntax.specs.declared.placed.Placed.{Placed}
use Rattle.x64_syntax.specs.declared.slots.Slot.{Slot}
use Rattle.x64_syntax.specs.declared.slots.SlotKind.{SlotKind}
use Rattle.x64_syntax.specs.declared.slots.SlotKind.TheVariants.{Read, Write, Locked}
use Rattle.limm_ir.specs.Steps.{fence_of}
use Rattle.limm_ir.specs.declared.step.IrStep.{IrStep}
use Rattle.limm_ir.specs.declared.step.IrStep.TheVariants as steps
use Rattle.fence_place.specs.Marked.{marked}
use Rattle.fence_plan.specs.Gaps.{gaps, fences_of}
use Rattle.fence_merge.specs.Roles.{role, boundary_unless, stations, with_first, behind_role, between, HasPlannedFences}
use Rattle.fence_merge.specs.declared.role.Role.TheVariants.{Boundary}
use Rattle.isel.specs.Barriers.{step_barrier, step_barriers}
use Rattle.carry_spec.specs.Plan.{stations_of, block_gaps}
use Rattle.translate_core.specs.Passed.{gap_barriers}

-- the barriers of fences that stand gap by gap
abbrev all_barriers : List (List FenceKind) → List FenceKind
all_barriers others = flat_map (map barrier) others

-- a fence more in the first gap
fence_more : (kind : FenceKind) (others : List (List FenceKind)) → all_barriers (with_first kind others) ≡ barrier kind ∷ all_barriers others
fence_more kind [] = refl
fence_more kind (first ∷ others) = flat_map-cons (map barrier) (kind ∷ first) others ∙ ap (λ l. barrier kind ∷ l) (sym (flat_map-cons (map barrier) first others))

-- a gap more
gap_more : (kind : SlotKind) (others : List (List FenceKind)) → all_barriers (behind_role (Boundary kind) others) ≡ all_barriers others
gap_more kind others = flat_map-cons (map barrier) [] others

slot_more : (private : Bool) (kind : SlotKind) (others : List (List FenceKind)) → all_barriers (behind_role (boundary_unless private kind) others) ≡ all_barriers others
slot_more true kind others = refl
slot_more false kind others = gap_more kind others

-- a step more
step_more : (private : List Slot) (x : IrStep) (others : List (List FenceKind)) → all_barriers (behind_role (role private x) others) ≡ step_barrier x ++ all_barriers others
step_more private (steps.Load t a size place) others = slot_more (marked private (record { address = place; kind = Read })) Read others
step_more private (steps.Store a v size place) others = slot_more (marked private (record { address = place; kind = Write })) Write others
step_more private (steps.Rmw op t a v size place) others = gap_more Locked others
step_more private (steps.Cas t a e v size place) others = gap_more Locked others
step_more private (steps.Fence f) others = fence_more (fence_of f) others
step_more private x others = refl

-- the fences that stand in the gaps are those among the steps
all_between : (private : List Slot) (xs : List IrStep) → all_barriers (between private xs) ≡ step_barriers xs
all_between private [] = refl
all_between private (x ∷ xs) = step_more private x (between private xs) ∙ ap (λ l. step_barrier x ++ l) (all_between private xs) ∙ sym (flat_map-cons step_barrier x xs)

-- where placed fences change no gap, and the steps count for the plan what the instructions count, the merged steps have the
-- plan's barriers
pub planned_barriers : (private : List Slot) (ps : List Placed) (xs placed ys : List IrStep) → gaps (stations private placed) ≡ gaps (stations private xs)
    → stations private xs ≡ flat_map (stations_of (marked private)) ps → HasPlannedFences private placed ys → step_barriers ys ≡ gap_barriers (block_gaps (marked private) ps)
planned_barriers private ps xs placed ys same counts planned =
    sym (all_between private ys) ∙ ap all_barriers (planned ∙ ap (map fences_of) (same ∙ ap gaps counts)) ∙ flat_map-map (map barrier) fences_of (block_gaps (marked private) ps)
