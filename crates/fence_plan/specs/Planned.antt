-- The planned fences of a run: each gap gives its fences as it begins. A block's first gap begins as the run comes to the
-- block, and each access that is not private ends one gap and begins the next.
use Rattle.std.specs.Prelude.{◌≡◌, ℕ, Bool, true, false, List, [], ◌∷◌, ◌++◌, map, Option, Some, None, if◌then◌else◌}
use Rattle.std.specs.List.{AllByRecursion}
use Rattle.ev_graph.specs.declared.events.Item.{Item}
use Rattle.ev_graph.specs.declared.events.Item.TheVariants as items
use Rattle.ev_graph.specs.declared.events.End.{End}
use Rattle.ev_graph.specs.declared.events.FenceKind.{FenceKind}
use Rattle.ev_graph.specs.declared.events.FenceKind.TheVariants.{Frm, Fww, Fsc, Mfence, DmbLd, DmbSt, DmbFull}
use Rattle.behavior.specs.Tree.{Tree, Gives, Begins, Acts, Next, Goes, Stops}
use Rattle.behavior.specs.Run.{Run}
use Rattle.behavior.specs.Seen.{trace, barrier}
use Rattle.x64_syntax.specs.declared.slots.Slot.{Slot}
use Rattle.fence_plan.specs.declared.gap.Gap.{Gap}
use Rattle.fence_plan.specs.Private.{has_shared, privacy}
use Rattle.fence_plan.specs.Gaps.{fences_of}

-- a barrier as an item
abbrev pub barrier_item : FenceKind → Item
barrier_item kind = items.Fence (record { kind = barrier kind; place = 0 })

-- what a gap gives: its fences, as barriers of Arm
abbrev pub given : Gap → List Item
given g = map barrier_item (fences_of g)

-- what the first of these gaps gives
abbrev pub first_given : List Gap → List Item
first_given [] = []
first_given (g ∷ gs) = given g

-- the gaps behind the first
abbrev pub later_gaps : List Gap → List Gap
later_gaps [] = []
later_gaps (g ∷ gs) = gs

-- a thread's state, and the gaps of its block that are still to begin
pub record Planning (S : Type 0) : Type 0 where
  pub state : S
  pub gaps : List Gap

-- A step that gives the fences of the gaps that begin in it: behind each act that makes an access that is not private, those
-- of the next gap.
abbrev pub with_gaps : {S : Type 0} → (private : Slot → Bool) → List Gap → Tree (Next S) → Tree (Next (Planning S))
with_gaps private gs (Gives (Goes s)) = Gives (Goes (record { state = s; gaps = gs }))
with_gaps private gs (Gives (Stops end)) = Gives (Stops end)
with_gaps private gs (Begins t) = Begins (with_gaps private gs t)
with_gaps private gs (Acts range made next) =
    Acts range (λ v. if has_shared private (made v) then made v ++ first_given gs else made v)
    (λ v. with_gaps private (if has_shared private (made v) then later_gaps gs else gs) (next v))

-- a step from a state at which a block with these gaps begins, or none
abbrev pub planned_from : {S : Type 0} → (private : Slot → Bool) → Option (List Gap) → List Gap → Tree (Next S) → Tree (Next (Planning S))
planned_from private None gs t = with_gaps private gs t
planned_from private (Some gaps) gs t = Acts 1 (λ v. first_given gaps) (λ v. with_gaps private (later_gaps gaps) t)

-- The machine that also gives the planned fences. `plan` says the gaps of the block that begins at a state, if one does.
abbrev pub planned_step : {S : Type 0} → (private : Slot → Bool) → (plan : S → Option (List Gap)) → (S → Tree (Next S)) → Planning S → Tree (Next (Planning S))
planned_step private plan step p = planned_from private (plan p.state) p.gaps (step p.state)

-- a thread before its first step
abbrev pub before_blocks : {S : Type 0} → S → Planning S
before_blocks s = record { state = s; gaps = [] }

-- a barrier of Arm
abbrev pub is_barrier : FenceKind → Bool
is_barrier DmbLd = true
is_barrier DmbSt = true
is_barrier DmbFull = true
is_barrier Frm = false
is_barrier Fww = false
is_barrier Fsc = false
is_barrier Mfence = false

-- a barrier before other items; another fence is left out
abbrev pub with_barrier : FenceKind → List Item → List Item
with_barrier kind is = if is_barrier kind then items.Fence (record { kind = kind; place = 0 }) ∷ is else is

-- The accesses of a run that are not private and its barriers, in order. Whether an access is private is told by its turn,
-- since instructions of an image have other addresses; behind the last turn none is.
abbrev pub shared_view : (turns : List Bool) → List Item → List Item
shared_view turns [] = []
shared_view [] (items.Access a ∷ is) = items.Access (record a { place = 0 }) ∷ shared_view [] is
shared_view (true ∷ turns) (items.Access a ∷ is) = shared_view turns is
shared_view (false ∷ turns) (items.Access a ∷ is) = items.Access (record a { place = 0 }) ∷ shared_view turns is
shared_view turns (items.Fence f ∷ is) = with_barrier f.kind (shared_view turns is)
shared_view turns (items.Input t ∷ is) = shared_view turns is
shared_view turns (items.Output t ∷ is) = shared_view turns is

-- the item is a fence
abbrev pub IsFence : Item → Type 0
IsFence (items.Fence f) = Unit {0}
IsFence (items.Access a) = ⊥
IsFence (items.Input t) = ⊥
IsFence (items.Output t) = ⊥

-- A run has the barriers that another, which gives planned fences, has between the accesses that are not private, and behind
-- the last of them the first ones.
abbrev pub Follows : (private : Slot → Bool) → (from made : List Item) → Type 0
Follows private from made =
    (more : List Item) × AllByRecursion IsFence more
    × (shared_view (privacy private from) from ≡ shared_view (privacy private from) made ++ more)

-- Each run of the target follows the plan: it has the trace and the end of a run of the source with its planned fences, and
-- the barriers of that.
abbrev pub FollowsPlan : {S T : Type 0} → (private : Slot → Bool) → (plan : S → Option (List Gap)) → (S → Tree (Next S)) → S → (T → Tree (Next T)) → T → Type 0
FollowsPlan private plan source s target t = (made : List Item) (end : End) (n : ℕ) → Run target t made end n
    → (from : List Item) × (m : ℕ) × Run (planned_step private plan source) (before_blocks s) from end m × (trace from ≡ trace made) × Follows private from made
