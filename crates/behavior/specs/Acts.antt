-- The acts of which rows are made, so that a row reads like the manual.
use Rattle.std.specs.Prelude.{ℕ, ◌^◌, ◌%◌, ◌==◌, ◌&&◌, Bool, true, false, List, [], ◌∷◌, Option, Some, None, if◌then◌else◌}
use Rattle.ev_graph.specs.declared.events.Item.{Item}
use Rattle.ev_graph.specs.declared.events.Item.TheVariants as items
use Rattle.ev_graph.specs.declared.events.AccessKind.{AccessKind}
use Rattle.ev_graph.specs.declared.events.AccessKind.TheVariants.{Read, Write}
use Rattle.ev_graph.specs.declared.events.FenceKind.{FenceKind}
use Rattle.ev_graph.specs.declared.events.TrapKind.{TrapKind}
use Rattle.ev_graph.specs.declared.events.TrapKind.TheVariants.{BadAccess}
use Rattle.ev_graph.specs.declared.events.End.TheVariants.{Trap}
use Rattle.behavior.specs.Tree.{Tree, Gives, Acts, Next, Goes, Stops}

-- what registers hold, by their numbers
abbrev pub Bank : Type 0
Bank = ℕ → ℕ

-- a bank in which register k holds v
abbrev pub put : ℕ → ℕ → Bank → Bank
put k v bank = λ n. if n == k then v else bank n

-- whether `size` bytes from an address on may be read, or written where the first is true
abbrev pub Permission : Type 0
Permission = Bool → ℕ → ℕ → Bool

-- the thread goes on from a state
abbrev pub goes : {S : Type 0} → S → Tree (Next S)
goes s = Gives (Goes s)

-- the thread ends by a trap
abbrev pub traps : {S : Type 0} → TrapKind → Tree (Next S)
traps kind = Gives (Stops (Trap kind))

-- an access as an item
abbrev pub access : AccessKind → Bool → (place address size value : ℕ) → Item
access kind locked place address size value =
    items.Access (record { id = record { thread = 0; index = 0 }; kind = kind; locked = locked; address = address; size = size; value = value; place = place })

-- one item that no value from outside decides
abbrev pub makes : {S : Type 0} → Item → Tree (Next S) → Tree (Next S)
makes item go = Acts 1 (λ v. item ∷ []) (λ v. go)

-- an unlocked read of a value that fits its size, or a trap where it is not allowed
abbrev pub reads : {S : Type 0} → Permission → (place address size : ℕ) → (ℕ → Tree (Next S)) → Tree (Next S)
reads may place address size go =
    if may false address size
    then Acts (256 ^ size) (λ v. access Read false place address size v ∷ []) go
    else traps BadAccess

-- an unlocked write of the low bytes of a value, or a trap where it is not allowed
abbrev pub writes : {S : Type 0} → Permission → (place address size value : ℕ) → Tree (Next S) → Tree (Next S)
writes may place address size value go =
    if may true address size
    then makes (access Write false place address size (value % 256 ^ size)) go
    else traps BadAccess

-- the write of a locked pair, where there is one
abbrev pub locked_write : (place address size : ℕ) → Option ℕ → List Item
locked_write place address size None = []
locked_write place address size (Some v) = access Write true place address size (v % 256 ^ size) ∷ []

-- A locked read and, where there is a new value, the locked write, in one act. Both permissions come first.
abbrev pub exchanges : {S : Type 0} → Permission → (place address size : ℕ) → (ℕ → Option ℕ) → (ℕ → Tree (Next S)) → Tree (Next S)
exchanges may place address size new go =
    if may false address size && may true address size
    then Acts (256 ^ size) (λ v. access Read true place address size v ∷ locked_write place address size (new v)) go
    else traps BadAccess

-- a fence
abbrev pub fences_at : {S : Type 0} → FenceKind → (place : ℕ) → Tree (Next S) → Tree (Next S)
fences_at kind place go = makes (items.Fence (record { kind = kind; place = place })) go

-- a value of 64 bits that comes in
abbrev pub takes_in : {S : Type 0} → (place : ℕ) → (ℕ → Tree (Next S)) → Tree (Next S)
takes_in place go = Acts (2 ^ 64) (λ v. items.Input (record { value = v; place = place }) ∷ []) go

-- a value of 64 bits that goes out
abbrev pub puts_out : {S : Type 0} → (place value : ℕ) → Tree (Next S) → Tree (Next S)
puts_out place value go = makes (items.Output (record { value = value; place = place })) go
