-- What each order keeps within a thread: for each kind, a relation between access m and a later access n of the thread's items.
use Rattle.std.specs.Prelude.{ℕ, List, [], ◌∷◌, ◌⊎◌}
use Rattle.ev_graph.specs.declared.events.Item.{Item}
use Rattle.ev_graph.specs.declared.events.FenceKind.TheVariants as fence
use Rattle.ev_graph.specs.Events.{ReadAt, WriteAt, LockedAt, LockedPairAt, FenceBetween}
use Rattle.order_models.specs.declared.edge.EdgeKind.{EdgeKind}
use Rattle.order_models.specs.declared.edge.EdgeKind.TheVariants as edge

-- by the kind, which accesses m and n of a thread's items are ordered
abbrev pub Order : Type 1
Order = EdgeKind → List Item → ℕ → ℕ → Type 0

-- x86-TSO: all but a write before a read; an MFENCE between; a locked access at an end
abbrev pub Tso : Order
Tso edge.Ppo items m n = ReadAt items m ⊎ WriteAt items n
Tso edge.Mfence items m n = FenceBetween fence.Mfence items m n
Tso edge.Implied items m n = LockedAt items m ⊎ LockedAt items n
Tso _ items m n = ⊥

-- the intermediate form: a locked pair; a read before an Frm; writes around an Fww; an Fsc between
abbrev pub Limm : Order
Limm edge.Rmw items m n = LockedPairAt items m n
Limm edge.Frm items m n = ReadAt items m × FenceBetween fence.Frm items m n
Limm edge.Fww items m n = WriteAt items m × WriteAt items n × FenceBetween fence.Fww items m n
Limm edge.Fsc items m n = FenceBetween fence.Fsc items m n
Limm _ items m n = ⊥

-- Armv8: a locked pair; a full DMB between; a read before a DMB LD; writes around a DMB ST
abbrev pub Arm : Order
Arm edge.Rmw items m n = LockedPairAt items m n
Arm edge.Dmb items m n = FenceBetween fence.DmbFull items m n
Arm edge.Ld items m n = ReadAt items m × FenceBetween fence.DmbLd items m n
Arm edge.St items m n = WriteAt items m × WriteAt items n × FenceBetween fence.DmbSt items m n
Arm _ items m n = ⊥

-- the kinds of x86-TSO, as the enum lists them
abbrev pub tso_kinds : List EdgeKind
tso_kinds = edge.Ppo ∷ edge.Mfence ∷ edge.Implied ∷ []

-- the kinds of the intermediate form, as the enum lists them
abbrev pub limm_kinds : List EdgeKind
limm_kinds = edge.Rmw ∷ edge.Frm ∷ edge.Fww ∷ edge.Fsc ∷ []

-- the kinds of Armv8, as the enum lists them
abbrev pub arm_kinds : List EdgeKind
arm_kinds = edge.Rmw ∷ edge.Dmb ∷ edge.Ld ∷ edge.St ∷ []

-- no pair has the kind of one that is ordered by rf, fr or co
pub record HasOwnKinds (order : Order) : Type 0 where
  pub no_co : (items : List Item) (m n : ℕ) → order edge.Co items m n → ⊥
  pub no_fr : (items : List Item) (m n : ℕ) → order edge.Fr items m n → ⊥
  pub no_rfe : (items : List Item) (m n : ℕ) → order edge.Rfe items m n → ⊥
  pub no_fre : (items : List Item) (m n : ℕ) → order edge.Fre items m n → ⊥
  pub no_coe : (items : List Item) (m n : ℕ) → order edge.Coe items m n → ⊥
