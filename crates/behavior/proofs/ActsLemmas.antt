-- The acts of rows: what decides them, and two of them side by side.
use Rattle.std.proofs.Common.{◌≡◌, ℕ, ◌<◌, ◌^◌, ◌%◌, ◌&&◌, Bool, true, false, List, [], ◌∷◌, ◌++◌, Option, arith}
use Rattle.std.specs.Prelude.{if◌then◌else◌}
use Rattle.ev_graph.specs.declared.events.Item.{Item}
use Rattle.ev_graph.specs.declared.events.Item.TheVariants as items
use Rattle.ev_graph.specs.declared.events.AccessKind.TheVariants.{Read, Write}
use Rattle.ev_graph.specs.declared.events.TrapKind.{TrapKind}
use Rattle.ev_graph.specs.declared.events.TrapKind.TheVariants.{BadAccess}
use Rattle.ev_graph.specs.declared.events.FenceKind.{FenceKind}
use Rattle.behavior.specs.Tree.{Tree, Gives, Begins, Acts, Next, Goes, Stops, ◌then◌}
use Rattle.behavior.specs.Acts.{Permission, traps, access, makes, reads, writes, locked_write, exchanges, fences_at, takes_in}
use Rattle.behavior.specs.Seen.{given}
use Rattle.behavior.specs.Kept.{SameNext, both-stop}
use Rattle.behavior.specs.Explained.{IsOpen}
use Rattle.behavior.proofs.Beside.{Beside, give, act, only-target}

-- ---- each value from outside shows

pub open_then : {S T : Type 0} (t : Tree (Next S)) (f : S → Tree (Next T)) → IsOpen t → ((s : S) → IsOpen (f s)) → IsOpen (t then f)
open_then (Gives (Goes s)) f first second = second s
open_then (Gives (Stops end)) f first second = tt
open_then (Begins t) f first second = open_then t f first second
open_then (Acts range made next) f (decided, first) second = (decided, λ v. open_then (next v) f (first v) second)

open_choice : {S : Type 0} (b : Bool) (t : Tree (Next S)) (kind : TrapKind) → IsOpen t → IsOpen (if b then t else traps kind)
open_choice true t kind here = here
open_choice false t kind here = tt

pub open_makes : {S : Type 0} (item : Item) (t : Tree (Next S)) → IsOpen t → IsOpen (makes item t)
open_makes item t here = ((λ v w lt lt' x y same. omega (arith, lt, lt')), λ v. here)

pub open_reads : {S : Type 0} (may : Permission) (place address size : ℕ) (go : ℕ → Tree (Next S)) → ((v : ℕ) → IsOpen (go v)) → IsOpen (reads may place address size go)
open_reads may place address size go here =
    open_choice (may false address size) (Acts (256 ^ size) (λ v. access Read false place address size v ∷ []) go) BadAccess ((λ v w lt lt' x y same. first_same v w x y same), here)
  where
    first_same : (v w : ℕ) (x y : List ℕ) → (v ∷ x) ≡ (w ∷ y) → v ≡ w
    first_same v w x y same = cc

pub open_writes : {S : Type 0} (may : Permission) (place address size value : ℕ) (t : Tree (Next S)) → IsOpen t → IsOpen (writes may place address size value t)
open_writes may place address size value t here =
    open_choice (may true address size) (makes (access Write false place address size (value % 256 ^ size)) t) BadAccess (open_makes (access Write false place address size (value % 256 ^ size)) t here)

pub open_exchanges : {S : Type 0} (may : Permission) (place address size : ℕ) (new : ℕ → Option ℕ) (go : ℕ → Tree (Next S)) → ((v : ℕ) → IsOpen (go v)) → IsOpen (exchanges may place address size new go)
open_exchanges may place address size new go here =
    open_choice (may false address size && may true address size) (Acts (256 ^ size) (λ v. access Read true place address size v ∷ locked_write place address size (new v)) go) BadAccess
    ((λ v w lt lt' x y same. first_same v w (given (locked_write place address size (new v)) ++ x) (given (locked_write place address size (new w)) ++ y) same), here)
  where
    first_same : (v w : ℕ) (x y : List ℕ) → (v ∷ x) ≡ (w ∷ y) → v ≡ w
    first_same v w x y same = cc

pub open_takes_in : {S : Type 0} (place : ℕ) (go : ℕ → Tree (Next S)) → ((v : ℕ) → IsOpen (go v)) → IsOpen (takes_in place go)
open_takes_in place go here = ((λ v w lt lt' x y same. first_same v w x y same), here)
  where
    first_same : (v w : ℕ) (x y : List ℕ) → (v ∷ x) ≡ (w ∷ y) → v ≡ w
    first_same v w x y same = cc

-- ---- side by side, where what follows is side by side

module _ (seen : List Item → List Item) (rate : ℕ) {S T : Type 0} (Same : S → T → Type 0) where
  -- both sides of a choice that both trees make, before more of the programs
  pub beside_choice : {S' T' : Type 0} (f : S' → Tree (Next S)) (g : T' → Tree (Next T)) (credit : ℕ) (b : Bool) (p : Tree (Next S')) (q : Tree (Next T')) (kind : TrapKind)
      → Beside seen rate (SameNext Same) credit (p then f) (q then g)
      → Beside seen rate (SameNext Same) credit ((if b then p else traps kind) then f) ((if b then q else traps kind) then g)
  beside_choice f g credit true p q kind here = here
  beside_choice f g credit false p q kind here = give both-stop

  -- reads of the same bytes, whose items are seen alike
  pub beside_reads : {S' T' : Type 0} (f : S' → Tree (Next S)) (g : T' → Tree (Next T)) (credit : ℕ) (may : Permission) (place place' address size : ℕ) (go : ℕ → Tree (Next S')) (go' : ℕ → Tree (Next T'))
      → ((v : ℕ) → seen (access Read false place' address size v ∷ []) ≡ seen (access Read false place address size v ∷ []))
      → ((v : ℕ) → v < 256 ^ size → Beside seen rate (SameNext Same) credit (go v then f) (go' v then g))
      → Beside seen rate (SameNext Same) credit (reads may place address size go then f) (reads may place' address size go' then g)
  beside_reads f g credit may place place' address size go go' alike here =
      beside_choice f g credit (may false address size) (Acts (256 ^ size) (λ v. access Read false place address size v ∷ []) go) (Acts (256 ^ size) (λ v. access Read false place' address size v ∷ []) go') BadAccess
      (act (λ v lt. alike v) here)

  -- writes of the same value to the same bytes
  pub beside_writes : {S' T' : Type 0} (f : S' → Tree (Next S)) (g : T' → Tree (Next T)) (credit : ℕ) (may : Permission) (place place' address size value : ℕ) (p : Tree (Next S')) (q : Tree (Next T'))
      → seen (access Write false place' address size (value % 256 ^ size) ∷ []) ≡ seen (access Write false place address size (value % 256 ^ size) ∷ [])
      → Beside seen rate (SameNext Same) credit (p then f) (q then g)
      → Beside seen rate (SameNext Same) credit (writes may place address size value p then f) (writes may place' address size value q then g)
  beside_writes f g credit may place place' address size value p q alike here =
      beside_choice f g credit (may true address size) (makes (access Write false place address size (value % 256 ^ size)) p) (makes (access Write false place' address size (value % 256 ^ size)) q) BadAccess
      (act (λ v lt. alike) (λ v lt. here))

  -- locked pairs on the same bytes, by the same rule
  pub beside_exchanges : {S' T' : Type 0} (f : S' → Tree (Next S)) (g : T' → Tree (Next T)) (credit : ℕ) (may : Permission) (place place' address size : ℕ) (new : ℕ → Option ℕ) (go : ℕ → Tree (Next S')) (go' : ℕ → Tree (Next T'))
      → ((v : ℕ) → seen (access Read true place' address size v ∷ locked_write place' address size (new v)) ≡ seen (access Read true place address size v ∷ locked_write place address size (new v)))
      → ((v : ℕ) → v < 256 ^ size → Beside seen rate (SameNext Same) credit (go v then f) (go' v then g))
      → Beside seen rate (SameNext Same) credit (exchanges may place address size new go then f) (exchanges may place' address size new go' then g)
  beside_exchanges f g credit may place place' address size new go go' alike here =
      beside_choice f g credit (may false address size && may true address size) (Acts (256 ^ size) (λ v. access Read true place address size v ∷ locked_write place address size (new v)) go)
      (Acts (256 ^ size) (λ v. access Read true place' address size v ∷ locked_write place' address size (new v)) go') BadAccess (act (λ v lt. alike v) here)

  -- two fences that are seen alike
  pub beside_fences : {S' T' : Type 0} (f : S' → Tree (Next S)) (g : T' → Tree (Next T)) (credit : ℕ) (kind kind' : FenceKind) (place place' : ℕ) (p : Tree (Next S')) (q : Tree (Next T'))
      → seen (items.Fence (record { kind = kind'; place = place' }) ∷ []) ≡ seen (items.Fence (record { kind = kind; place = place }) ∷ [])
      → Beside seen rate (SameNext Same) credit (p then f) (q then g)
      → Beside seen rate (SameNext Same) credit (fences_at kind place p then f) (fences_at kind' place' q then g)
  beside_fences f g credit kind kind' place place' p q alike here = act (λ v lt. alike) (λ v lt. here)

  -- a fence that is not seen, in the target alone
  pub beside_target_fence : {T' : Type 0} (g : T' → Tree (Next T)) (credit : ℕ) (kind : FenceKind) (place : ℕ) (p : Tree (Next S)) (q : Tree (Next T'))
      → seen (items.Fence (record { kind = kind; place = place }) ∷ []) ≡ []
      → Beside seen rate (SameNext Same) credit p (q then g) → Beside seen rate (SameNext Same) credit p (fences_at kind place q then g)
  beside_target_fence g credit kind place p q unseen here = only-target (omega arith) (λ v lt. unseen) (λ v lt. here)
