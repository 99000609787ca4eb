-- The doors of an order admit exactly the pairs that have a kind.
use Rattle.std.proofs.Common.{◌≡◌, ◌<◌, ◌↔◌, ℕ, zero, suc, List, [], ◌∷◌, Option, Some, None, IsSome, refl, subst, arith}
use Rattle.std.specs.List.{slice_get, AllByRecursion}
use Rattle.ev_graph.specs.declared.events.Access.{Access}
use Rattle.ev_graph.specs.declared.events.Item.{Item}
use Rattle.ev_graph.specs.declared.events.Item.TheVariants as item
use Rattle.ev_graph.specs.Events.{accesses_before}
use Rattle.ev_graph.specs.Places.{StandsIn}
use Rattle.ev_graph.proofs.Numbers.{mono, more}
use Rattle.order_models.specs.declared.doors.Door.{Door}
use Rattle.order_models.specs.declared.edge.EdgeKind.{EdgeKind}
use Rattle.order_models.specs.Orders.{Order}
use Rattle.order_models.specs.Local.{Ends, IsFirstLocal, LocalAt}
use Rattle.order_models.specs.Doors.{AreAdmitted, AreDoorsOf, IsAccessAt, IsKept}
use Rattle.order_models.proofs.CallerLemmas.{first_none-no, first_some-holds}
use Rattle.order_models.proofs.LocalLemmas.{event_at}

-- what holds of each of a list holds of what stands in it
pub all_at : {A : Type 0} (P : A → Type 0) (xs : List A) (x : A) → AllByRecursion P xs → StandsIn xs x → P x
all_at P [] x all (i, here) = absurd cc
all_at P (y ∷ ys) x all (zero, here) = let same : y ≡ x = cc in subst P same all.0
all_at P (y ∷ ys) x all (suc i, here) = all_at P ys x all.1 (i, here)

-- an access at a place is an access by its number
pub is_access : (items : List Item) (i : ℕ) (a : Access) → slice_get items i ≡ Some (item.Access a) → IsAccessAt items (accesses_before items i)
is_access items i a here = rw (event_at items i a here) tt

-- an access at an earlier place has a smaller number
pub numbers_rise : (items : List Item) (i j : ℕ) (a b : Access) → Ends items i j a b → accesses_before items i < accesses_before items j
numbers_rise items i j a b ends =
    let order = ends.order in
    let next = more items i a ends.first in
    let rest = mono items (suc i) j (omega arith) in
    omega arith

kind_admitted : (order : Order) (doors : List Door) → AreDoorsOf order doors → (items : List Item) (i j : ℕ) (kind : EdgeKind)
    → LocalAt order items i j kind → AreAdmitted doors items i j
kind_admitted order doors law items i j kind (a, b, ends, holds) =
    let found = law.each kind items _ _ (numbers_rise items i j a b ends) (is_access items i a ends.first) (is_access items j b ends.second) holds in
    record { first = a; second = b; ends = ends; door = found.0; listed = found.1; admits = found.3 }

admitted_kept : (order : Order) (kinds : List EdgeKind) (doors : List Door) → AreDoorsOf order doors
    → ((kind : EdgeKind) (items : List Item) (m n : ℕ) → order kind items m n → StandsIn kinds kind)
    → (items : List Item) (i j : ℕ) → IsFirstLocal order kinds items i j None → AreAdmitted doors items i j → ⊥
admitted_kept order kinds doors law all items i j none at =
    let holds = all_at (IsKept order) doors at.door law.kept at.listed items _ _ at.admits in
    let own = all at.door.kind items _ _ holds in
    first_none-no (LocalAt order items i j) kinds own.0 at.door.kind none own.1 (at.first, at.second, at.ends, holds)

-- a pair has a first kind exactly where a door admits it
pub local_admitted : (order : Order) (kinds : List EdgeKind) (doors : List Door) → AreDoorsOf order doors
    → ((kind : EdgeKind) (items : List Item) (m n : ℕ) → order kind items m n → StandsIn kinds kind)
    → (items : List Item) (i j : ℕ) (found : Option EdgeKind) → IsFirstLocal order kinds items i j found
    → IsSome found ↔ AreAdmitted doors items i j
local_admitted order kinds doors law all items i j None first = ((λ some. absurd cc), (λ at. absurd (admitted_kept order kinds doors law all items i j first at)))
local_admitted order kinds doors law all items i j (Some kind) first =
    ((λ some. kind_admitted order doors law items i j kind (first_some-holds (LocalAt order items i j) kinds kind first)), (λ at. refl))
