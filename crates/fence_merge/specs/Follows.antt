-- What it is for a path of steps to follow the plan of its block.
use Rattle.std.specs.Prelude.{◌≡◌, ℕ, Bool, List, [], ◌++◌}
use Rattle.std.specs.List.{AllByRecursion}
use Rattle.ev_graph.specs.declared.events.Item.{Item}
use Rattle.behavior.specs.Tree.{Tree, Point, Cut, At, Path, Next, Goes, Stops}
use Rattle.behavior.specs.Acts.{Permission}
use Rattle.behavior.specs.Seen.{placed, lowered}
use Rattle.x64_syntax.specs.declared.slots.Slot.{Slot}
use Rattle.limm_ir.specs.Costs.{step_cost, no_cost}
use Rattle.limm_ir.specs.Steps.{IrState, ir_steps}
use Rattle.limm_ir.specs.declared.step.IrStep.{IrStep}
use Rattle.fence_place.specs.Marked.{marked}
use Rattle.fence_plan.specs.Dressed.{dressed}
use Rattle.fence_plan.specs.Gaps.{gaps}
use Rattle.fence_plan.specs.Planned.{first_given, later_gaps, shared_view, IsFence}
use Rattle.fence_plan.specs.Private.{privacy}
use Rattle.fence_plan.specs.declared.gap.Gap.{Gap}
use Rattle.fence_merge.specs.Roles.{stations, unfenced}

-- a path has come to a state
abbrev pub IsAtState : {S : Type 0} → Point (Next S) → Type 0
IsAtState Cut = ⊥
IsAtState (At (Goes s)) = Unit {0}
IsAtState (At (Stops end)) = ⊥

-- A path that made these items and stops here follows the plan: it has the accesses of a path of the source that stops at
-- the same point, and the fences of the gaps in their places. The fences of a gap that it is cut in may be missing; none is
-- where it has come to a state.
pub record FollowsGaps {S : Type 0} (private : Slot → Bool) (gs : List Gap) (source : Tree (Next S)) (made : List Item) (stop : Point (Next S)) : Type 0 where
  pub from : List Item
  pub begun : ℕ
  pub path : Path source from stop begun
  pub accesses : placed from ≡ placed made
  pub missing : List Item
  pub fences : AllByRecursion IsFence missing
  pub barriers :
      first_given gs ++ shared_view (privacy private from) (dressed private (later_gaps gs) from) ≡ shared_view (privacy private from) (lowered made) ++ missing
  pub whole : IsAtState stop → missing ≡ []

-- each path of the second steps follows the plan of the first, with these, but for their fences, as the source
abbrev pub FollowsPlanOf : (private : List Slot) → (xs ys : List IrStep) → Type 0
FollowsPlanOf private xs ys = (may : Permission) (s : IrState) (made : List Item) (stop : Point (Next IrState)) (n : ℕ)
    → Path (ir_steps step_cost may ys s) made stop n
    → FollowsGaps (marked private) (gaps (stations private xs)) (ir_steps no_cost may (unfenced xs) s) made stop
