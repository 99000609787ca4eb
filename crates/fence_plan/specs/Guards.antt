-- The fences that the order of x86 asks of Arm between the accesses of a run that are not private.
use Rattle.std.specs.Prelude.{◌≡◌, ◌⊎◌, Bool, true, false, List, [], ◌∷◌}
use Rattle.ev_graph.specs.declared.events.Access.{Access}
use Rattle.ev_graph.specs.declared.events.AccessKind.{AccessKind}
use Rattle.ev_graph.specs.declared.events.AccessKind.TheVariants.{Read, Write}
use Rattle.ev_graph.specs.declared.events.FenceKind.{FenceKind}
use Rattle.ev_graph.specs.declared.events.FenceKind.TheVariants.{Frm, Fww, Fsc, Mfence, DmbLd, DmbSt, DmbFull}
use Rattle.ev_graph.specs.declared.events.Item.{Item}
use Rattle.ev_graph.specs.declared.events.Item.TheVariants as items

-- What the items so far leave open. `reads`: behind a read stands no load barrier and no full one. `locked`: behind a locked
-- access stands no full barrier. `writes` and `all`: behind the last access that is not private stands no store barrier and no
-- full one, and no full one. `half`: the last access is a locked read, and its write may follow.
pub record Open : Type 0 where
  pub half : Bool
  pub locked : Bool
  pub reads : Bool
  pub writes : Bool
  pub all : Bool

-- where a run begins, nothing has to be closed, and no barrier has come
abbrev pub open_at_start : Open
open_at_start = record { half = false; locked = false; reads = false; writes = true; all = true }

-- behind a fence
abbrev pub behind_fence : FenceKind → Open → Open
behind_fence DmbLd o = record o { half = false; reads = false }
behind_fence DmbSt o = record o { half = false; writes = false }
behind_fence DmbFull o = record { half = false; locked = false; reads = false; writes = false; all = false }
behind_fence Frm o = record o { half = false }
behind_fence Fww o = record o { half = false }
behind_fence Fsc o = record o { half = false }
behind_fence Mfence o = record o { half = false }

-- behind an access
abbrev pub behind_access : (locked : Bool) → AccessKind → Open
behind_access true Read = record { half = true; locked = true; reads = false; writes = true; all = true }
behind_access true Write = record { half = false; locked = true; reads = false; writes = true; all = true }
behind_access false Read = record { half = false; locked = false; reads = true; writes = true; all = true }
behind_access false Write = record { half = false; locked = false; reads = false; writes = true; all = true }

-- an access may come: what it needs closed is closed, and the write of a locked pair needs nothing behind its read
abbrev pub MayCome : (locked : Bool) → AccessKind → Open → Type 0
MayCome true Read o = o.all ≡ false
MayCome true Write o = (o.half ≡ true) ⊎ (o.all ≡ false)
MayCome false Read o = (o.locked ≡ false) × (o.reads ≡ false)
MayCome false Write o = (o.locked ≡ false) × (o.reads ≡ false) × (o.writes ≡ false)

-- an MFENCE has its full barrier, since the last access
abbrev pub HasBarrier : FenceKind → Open → Type 0
HasBarrier Mfence o = o.all ≡ false
HasBarrier kind o = Unit {0}

-- what holds of a private access, and of one that is not
abbrev pub OfAccess : Bool → (private shared : Type 0) → Type 0
OfAccess true private shared = private
OfAccess false private shared = shared

-- Behind what leaves this open, each access that is not private comes where what it needs is closed, and each MFENCE has a full
-- barrier. Whether an access is private is said by a test.
abbrev pub Guards : (is_private : Access → Bool) → Open → List Item → Type 0
Guards is_private o [] = Unit {0}
Guards is_private o (items.Access a ∷ is) =
    OfAccess (is_private a) (Guards is_private (record o { half = false }) is) (MayCome a.locked a.kind o × Guards is_private (behind_access a.locked a.kind) is)
Guards is_private o (items.Fence f ∷ is) = HasBarrier f.kind o × Guards is_private (behind_fence f.kind o) is
Guards is_private o (items.Input t ∷ is) = Guards is_private o is
Guards is_private o (items.Output t ∷ is) = Guards is_private o is
