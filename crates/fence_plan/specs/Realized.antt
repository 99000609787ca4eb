-- What it means that a machine makes, block by block, what a plan is made of.
use Rattle.std.specs.Prelude.{◌≡◌, ◌⊎◌, ◌<◌, ℕ, Bool, true, false, List, [], ◌∷◌, Option, Some, None}
use Rattle.ev_graph.specs.declared.events.Access.{Access}
use Rattle.ev_graph.specs.declared.events.AccessKind.TheVariants.{Read, Write}
use Rattle.ev_graph.specs.declared.events.FenceItem.{FenceItem}
use Rattle.ev_graph.specs.declared.events.Transfer.{Transfer}
use Rattle.ev_graph.specs.declared.events.FenceKind.TheVariants.{Mfence}
use Rattle.ev_graph.specs.declared.events.Item.{Item}
use Rattle.ev_graph.specs.declared.events.Item.TheVariants as items
use Rattle.behavior.specs.Tree.{Tree, Gives, Begins, Acts, Next, Goes, Stops}
use Rattle.x64_syntax.specs.declared.slots.Slot.{Slot}
use Rattle.x64_syntax.specs.declared.slots.SlotKind.TheVariants.{Locked}
use Rattle.fence_plan.specs.declared.gap.Gap.{Gap}
use Rattle.fence_plan.specs.Private.{is_private, slot_kind}
use Rattle.fence_plan.specs.Gaps.{Station, Shared, Strong, gaps}

-- The items of one act are what the first of the stations stands for, and the others are left; or they are none that counts.
pub data IsAct (private : Slot → Bool) : List Item → List Station → List Station → Type 0 where
  -- an input, an output or nothing
  silent : {ss : List Station} → IsAct private [] ss ss
  input : {t : Transfer} {ss : List Station} → IsAct private (items.Input t ∷ []) ss ss
  output : {t : Transfer} {ss : List Station} → IsAct private (items.Output t ∷ []) ss ss
  -- a private access
  hidden : {a : Access} {ss : List Station} → is_private private a ≡ true → IsAct private (items.Access a ∷ []) ss ss
  -- an access that is neither private nor locked
  shared : {a : Access} {ss : List Station} → is_private private a ≡ false → a.locked ≡ false → IsAct private (items.Access a ∷ []) (Shared (slot_kind a.kind) ∷ ss) ss
  -- a locked read alone, or with its write
  read : {a : Access} {ss : List Station} → a.locked ≡ true → a.kind ≡ Read → IsAct private (items.Access a ∷ []) (Shared Locked ∷ ss) ss
  pair : {a b : Access} {ss : List Station} → a.locked ≡ true → a.kind ≡ Read → b.locked ≡ true → b.kind ≡ Write
      → IsAct private (items.Access a ∷ items.Access b ∷ []) (Shared Locked ∷ ss) ss
  -- MFENCE
  strong : {f : FenceItem} {ss : List Station} → f.kind ≡ Mfence → IsAct private (items.Fence f ∷ []) (Strong ∷ ss) ss

-- A state stands within a block of which these stations are still to come; or another block begins there.
abbrev pub StandsOn : {S : Type 0} → (plan : S → Option (List Gap)) → (Stands : S → List Station → Type 0) → S → List Station → Type 0
StandsOn plan Stands s ss =
    ((plan s ≡ None) × Stands s ss)
    ⊎ ((next : List Station) × (plan s ≡ Some (gaps next)) × Stands s next)

-- Each way through the tree makes what these stations stand for, in order, and comes to states where the others are to come.
abbrev pub Realizes : {S : Type 0} → (private : Slot → Bool) → (plan : S → Option (List Gap)) → (Stands : S → List Station → Type 0) → List Station → Tree (Next S) → Type 0
Realizes private plan Stands ss (Gives (Goes s)) = StandsOn plan Stands s ss
Realizes private plan Stands ss (Gives (Stops end)) = Unit {0}
Realizes private plan Stands ss (Begins t) = Realizes private plan Stands ss t
Realizes private plan Stands ss (Acts range made next) =
    (v : ℕ) → v < range → (rest : List Station) × IsAct private (made v) ss rest × Realizes private plan Stands rest (next v)

-- a machine realizes a plan: from each state in a block its step makes what is to come
abbrev pub RealizesPlan : {S : Type 0} → (private : Slot → Bool) → (plan : S → Option (List Gap)) → (Stands : S → List Station → Type 0) → (S → Tree (Next S)) → Type 0
RealizesPlan {S} private plan Stands step = (s : S) (ss : List Station) → Stands s ss → Realizes private plan Stands ss (step s)
