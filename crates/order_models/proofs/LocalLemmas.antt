-- From the kinds of two accesses by their numbers to those of the pair at two places.
use Rattle.std.proofs.Common.{◌≡◌, ◌+◌, ◌-◌, ℕ, Bool, false, List, [], ◌∷◌, inl, inr, ◌↔◌, IsTrue, Option, Some, None, refl, subst, arith}
use Rattle.std.specs.List.{slice_get, slice_range}
use Rattle.std.proofs.lemmas.Option.{slice_get-map}
use Rattle.ev_graph.specs.declared.events.Access.{Access}
use Rattle.ev_graph.specs.declared.events.Item.{Item}
use Rattle.ev_graph.specs.declared.events.Item.TheVariants as item
use Rattle.ev_graph.specs.Events.{accesses, accesses_before, event, events}
use Rattle.ev_graph.proofs.Numbers.{number, fence_from, fence_to, next_from, next_to}
use Rattle.ev_graph.proofs.PlaceLemmas.{range_from, range_to}
use Rattle.order_models.specs.declared.edge.EdgeKind.{EdgeKind}
use Rattle.order_models.specs.Orders.{Order}
use Rattle.order_models.specs.Local.{Ends, IsFirst, IsFirstLocal, IsPair}

-- where no two accesses stand at the places, they have no kind
pub first_none : (order : Order) (kinds : List EdgeKind) (items : List Item) (i j : ℕ)
    → ((a b : Access) → Ends items i j a b → ⊥) → IsFirstLocal order kinds items i j None
first_none order [] items i j none = refl
first_none order (kind ∷ kinds) items i j none = inr ((λ found. none found.0 found.1 found.2), first_none order kinds items i j none)

-- the first kind by the numbers of the accesses is the first by their places
pub first_some : (order : Order) (kinds : List EdgeKind) (items : List Item) (i j : ℕ) (a b : Access) (found : Option EdgeKind) → Ends items i j a b
    → IsFirst (λ kind. order kind items (accesses_before items i) (accesses_before items j)) kinds found → IsFirstLocal order kinds items i j found
first_some order [] items i j a b found ends first = first
first_some order (kind ∷ kinds) items i j a b found ends (inl (holds, is)) = inl ((a, b, ends, holds), is)
first_some order (kind ∷ kinds) items i j a b found ends (inr (not, rest)) =
    inr ((λ other. not other.3), first_some order kinds items i j a b found ends rest)

-- an access is the event with its number
pub event_at : (items : List Item) (i : ℕ) (a : Access) → slice_get items i ≡ Some (item.Access a)
    → slice_get (events items) (accesses_before items i) ≡ Some (event a)
event_at items i a here = let found = number items i a here in rw (slice_get-map event (accesses items) (accesses_before items i), found) refl

-- the accesses at two places, with the items between
pub is_pair : (items : List Item) (i j : ℕ) (a b : Access) (between : List Item) → Ends items i j a b → between ≡ slice_range items (i + 1) j
    → IsPair items (accesses_before items i) (accesses_before items j) a b between
is_pair items i j a b between ends is = rw is (record {
  first = event_at items i a ends.first;
  second = event_at items j b ends.second;
  fences = λ kind. (
    (λ from. let places = fence_from kind items i j a b ends.first ends.second from in record {
      place = from.place - (i + 1);
      fence = from.fence;
      here = range_to items (i + 1) j from.place (item.Fence from.fence) (let after = places.0 in omega arith) places.1 from.here;
      same = from.same;
    }),
    (λ to. let stands = range_from items (i + 1) j to.place (item.Fence to.fence) to.here in
        fence_to kind items i j (i + 1 + to.place) a to.fence ends.first (omega arith) stands.0 stands.1 to.same),
  );
  next = (
    (λ next k c here. let stands = range_from items (i + 1) j k (item.Access c) here in
        next_from items i j (i + 1 + k) a c ends.first next (omega arith) stands.0 stands.1),
    (λ none. next_to items i j a ends.first ends.order (λ k c after before here.
        none (k - (i + 1)) c (range_to items (i + 1) j k (item.Access c) (let more = after in omega arith) before here))),
  );
})

-- what a test decides does not hold where the test is false
pub never : {A : Type 0} (test : Bool) → IsTrue test ↔ A → test ≡ false → A → ⊥
never test decides not holds = let yes = decides.1 holds in cc

-- what the pair's contract says of any items, at the places where the pair stands
pub local_of : (order : Order) (kinds : List EdgeKind) (slice items : List Item) (i j : ℕ) (a b : Access) (between : List Item) (found : Option EdgeKind)
    → slice ≡ items → Ends slice i j a b → between ≡ slice_range slice (i + 1) j
    → ((items : List Item) (m n : ℕ) → IsPair items m n a b between → IsFirst (λ kind. order kind items m n) kinds found)
    → IsFirstLocal order kinds items i j found
local_of order kinds slice items i j a b between found same ends is first =
    let Result : List Item → Type 0 = λ xs. IsFirstLocal order kinds xs i j found in
    subst Result same (first_some order kinds slice i j a b found ends (first slice _ _ (is_pair slice i j a b between ends is)))
