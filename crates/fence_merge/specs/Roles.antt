-- What the steps of a block are to the plan of fences, and which fences stand between them.
use Rattle.std.specs.Prelude.{◌≡◌, Bool, true, false, List, [], ◌∷◌, map}
use Rattle.std.specs.List.{flat_map}
use Rattle.ev_graph.specs.declared.events.FenceKind.{FenceKind}
use Rattle.x64_syntax.specs.declared.slots.Slot.{Slot}
use Rattle.x64_syntax.specs.declared.slots.SlotKind.{SlotKind}
use Rattle.x64_syntax.specs.declared.slots.SlotKind.TheVariants.{Read, Write, Locked}
use Rattle.limm_ir.specs.Steps.{fence_of}
use Rattle.limm_ir.specs.declared.step.IrFence.TheVariants.{Frm, Fww, Fsc}
use Rattle.limm_ir.specs.declared.step.IrStep.{IrStep}
use Rattle.limm_ir.specs.declared.step.IrStep.TheVariants as steps
use Rattle.fence_place.specs.Marked.{marked}
use Rattle.fence_plan.specs.Gaps.{Station, Shared, Strong, gaps, fences_of}
use Rattle.fence_merge.specs.declared.role.Role.{Role}
use Rattle.fence_merge.specs.declared.role.Role.TheVariants.{Boundary, Fence, Other}

-- an unlocked slot, which is a boundary of gaps unless it is private
abbrev pub boundary_unless : (private : Bool) → SlotKind → Role
boundary_unless true kind = Other
boundary_unless false kind = Boundary kind

-- What a step is to the plan: a slot that is not private, a fence, or neither. A locked slot is never private.
abbrev pub role : (private : List Slot) → IrStep → Role
role private (steps.Load t a size place) = boundary_unless (marked private (record { address = place; kind = Read })) Read
role private (steps.Store a v size place) = boundary_unless (marked private (record { address = place; kind = Write })) Write
role private (steps.Rmw op t a v size place) = Boundary Locked
role private (steps.Cas t a e v size place) = Boundary Locked
role private (steps.Fence f) = Fence f
role private x = Other

-- the stations of a step: Fsc counts as a full fence, the other fences do not count
abbrev pub role_stations : Role → List Station
role_stations (Boundary kind) = Shared kind ∷ []
role_stations (Fence Fsc) = Strong ∷ []
role_stations (Fence Frm) = []
role_stations (Fence Fww) = []
role_stations Other = []

-- the stations of a block, in order
abbrev pub stations : (private : List Slot) → List IrStep → List Station
stations private xs = flat_map (λ x. role_stations (role private x)) xs

-- a step, unless it is a fence
abbrev pub without_fence : IrStep → List IrStep
without_fence (steps.Fence f) = []
without_fence x = x ∷ []

-- the steps without the fences among them
abbrev pub unfenced : List IrStep → List IrStep
unfenced xs = flat_map without_fence xs

-- a fence before those of the first gap
abbrev pub with_first : FenceKind → List (List FenceKind) → List (List FenceKind)
with_first kind [] = (kind ∷ []) ∷ []
with_first kind (first ∷ others) = (kind ∷ first) ∷ others

-- the fences of gaps, with one step more in front
abbrev pub behind_role : Role → List (List FenceKind) → List (List FenceKind)
behind_role (Boundary kind) others = [] ∷ others
behind_role (Fence f) others = with_first (fence_of f) others
behind_role Other others = others

-- The fences that stand in a block, gap by gap: a gap lasts from one slot that is not private to the next, and from edge to
-- edge.
abbrev pub between : (private : List Slot) → List IrStep → List (List FenceKind)
between private [] = [] ∷ []
between private (x ∷ xs) = behind_role (role private x) (between private xs)

-- the fences between the second steps are just those of the plan of the first
abbrev pub HasPlannedFences : (private : List Slot) → (xs ys : List IrStep) → Type 0
HasPlannedFences private xs ys = between private ys ≡ map fences_of (gaps (stations private xs))
