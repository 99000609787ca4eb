-- From an order of numbers to one of events, and from a cycle of numbers to one of events.
use Rattle.std.proofs.Common.{◌≡◌, ◌↔◌, ℕ, zero, suc, Bool, false, List, [], ◌∷◌, length, map, Option, Some, None, MatchOption, refl, sym, ap, subst, ◌∙◌, arith}
use Rattle.std.specs.List.{slice_get}
use Rattle.ev_graph.specs.declared.events.Access.{Access}
use Rattle.ev_graph.specs.declared.events.AccessKind.TheVariants.{Read}
use Rattle.ev_graph.specs.declared.events.EventId.{EventId}
use Rattle.ev_graph.specs.declared.execution.Execution.{Execution}
use Rattle.ev_graph.specs.declared.execution.ThreadRun.{ThreadRun}
use Rattle.ev_graph.specs.Cycle.{Chain, Among}
use Rattle.ev_graph.specs.Events.{Event, event, IsIn}
use Rattle.ev_graph.specs.Places.{Earlier, IsDistinct, StandsIn}
use Rattle.ev_graph.specs.WellFormed.{all_accesses, IsIndexed}
use Rattle.ev_graph.proofs.EventLemmas.{access_of, access_in}
use Rattle.ev_graph.proofs.Ids.{from_all}
use Rattle.ev_graph.proofs.Members.{stands_map, stands_image}
use Rattle.order_models.specs.Consistent.{ExternalPair, SomeKind}
use Rattle.order_models.specs.Orders.{Order}
use Rattle.axiom_check.specs.Lanes.{HasRound, IsOrderOf}
use Rattle.axiom_check.specs.Numbers.{AreNumbered, Told}
use Rattle.axiom_check.specs.Ordered.{IsEventOrder, IsExternalPair, HasExternalCycle, access_ids, id_at, id_of}
use Rattle.axiom_check.proofs.LanesLemmas.{element, place_below}
use Rattle.axiom_check.proofs.NumberLemmas.{same_number}
use Rattle.axiom_check.proofs.Judged.{numbered_of}

-- pairs told otherwise make the same answer
same_chain : {A B : Type 0} (R : A → A → Type 0) (S : B → B → Type 0) (f : A → B) → ((a b : A) → R a b → S (f a) (f b)) → (a : A) (via : List A) (b : A)
    → Chain R a via b → Chain S (f a) (map f via) (f b)
same_chain R S f to a [] b pair = to a b pair
same_chain R S f to a (v ∷ via) b (pair, rest) = (to a v pair, same_chain R S f to v via b rest)

same_pairs : (R S : ℕ → ℕ → Type 0) → ((a b : ℕ) → R a b → S a b) → (a : ℕ) (via : List ℕ) (b : ℕ) → Chain R a via b → Chain S a via b
same_pairs R S to a [] b pair = to a b pair
same_pairs R S to a (v ∷ via) b (pair, rest) = (to a v pair, same_pairs R S to v via b rest)

pub answered_as : {V : Type 0} (items : V → List ℕ) (events : ℕ) (R S : ℕ → ℕ → Type 0) → ((a b : ℕ) → R a b → S a b) → ((a b : ℕ) → S a b → R a b) → (found : Option V)
    → MatchOption found (HasRound R) (λ order. IsOrderOf events R (items order)) → MatchOption found (HasRound S) (λ order. IsOrderOf events S (items order))
answered_as items events R S to from None (a, via, round) = (a, via, same_pairs R S to a via a round)
answered_as items events R S to from (Some order) is = record { below = is.below; each = is.each; once = is.once; forward = λ a b pair. is.forward a b (from a b pair) }

-- what stands at a place of an image stands there in the list
pub image_at : {A B : Type 0} (f : A → B) (xs : List A) (i : ℕ) (y : B) → slice_get (map f xs) i ≡ Some y → (x : A) × (slice_get xs i ≡ Some x) × (f x ≡ y)
image_at f [] i y here = absurd cc
image_at f (x ∷ xs) zero y here = (x, refl, cc)
image_at f (x ∷ xs) (suc i) y here = image_at f xs i y here

at_image : {A B : Type 0} (f : A → B) (xs : List A) (i : ℕ) (x : A) → slice_get xs i ≡ Some x → slice_get (map f xs) i ≡ Some (f x)
at_image f [] i x here = absurd cc
at_image f (y ∷ xs) zero x here = cc
at_image f (y ∷ xs) (suc i) x here = at_image f xs i x here

id_here : (all : List Access) (n : ℕ) (a : Access) → slice_get all n ≡ Some a → id_at all n ≡ a.id
id_here all n a here = ap id_of here

-- the event with a number
abbrev event_of : Option Access → Event
event_of (Some a) = event a
event_of None = record { id = record { thread = 0; index = 0 }; kind = Read; locked = false; address = 0; size = 0 }

-- an access of all is an event of the threads
pub event_in : (threads : List ThreadRun) (all : List Access) → IsIndexed threads → all ≡ all_accesses threads → (n : ℕ) (a : Access) → slice_get all n ≡ Some a → IsIn threads (event a)
event_in threads all indexed same n a here =
    let (t, m, at) = from_all threads a (n, subst (λ (l : List Access). slice_get l n ≡ Some a) same here) in
    (access_in threads indexed (record { thread = t; index = m }) a at).0

-- a cycle of numbers is one of events
pub cycle_of : (x : Execution) (all : List Access) (R : Event → Event → Type 0) → IsIndexed x.threads → all ≡ all_accesses x.threads → HasRound (Told all R)
    → (a : Event) × (via : List Event) × Chain (Among x.threads R) a via a
cycle_of x all R indexed same (n, via, round) =
    let at : ℕ → Event = λ i. event_of (slice_get all i) in
    (at n, map at via, same_chain (Told all R) (Among x.threads R) at (λ i j told. pair_at i j told) n via n round) where
      pair_at : (i j : ℕ) → Told all R i j → Among x.threads R (event_of (slice_get all i)) (event_of (slice_get all j))
      pair_at i j told =
          let first : event_of (slice_get all i) ≡ event told.first = ap event_of told.first_there in
          let second : event_of (slice_get all j) ≡ event told.second = ap event_of told.second_there in
          let among : Among x.threads R (event told.first) (event told.second) = record {
            first = event_in x.threads all indexed same i told.first told.first_there;
            second = event_in x.threads all indexed same j told.second told.second_there;
            pair = told.pair;
          } in
          subst (λ (e : Event). Among x.threads R e (event_of (slice_get all j))) (sym first) (subst (λ (e : Event). Among x.threads R (event told.first) e) (sym second) among)

-- an event and its number
pub numbered_event : (x : Execution) (all : List Access) → IsIndexed x.threads → all ≡ all_accesses x.threads → (a : Event) → IsIn x.threads a
    → (n : ℕ) × (access : Access) × (slice_get all n ≡ Some access) × (event access ≡ a)
numbered_event x all indexed same a is =
    let (access, found, is_event) = access_of x.threads a is in
    let (n, numbered) = numbered_of x.threads all indexed same a.id access found in
    (n, access, numbered.here, is_event)

-- a pair of events is one of their numbers
told_of : (x : Execution) (all : List Access) (R : Event → Event → Type 0) (a b : Event) (m n : ℕ) (one two : Access) → slice_get all m ≡ Some one → slice_get all n ≡ Some two
    → event one ≡ a → event two ≡ b → R a b → Told all R m n
told_of x all R a b m n one two here there first second pair = record {
  first = one;
  second = two;
  first_there = here;
  second_there = there;
  pair = subst (λ (e : Event). R e (event two)) (sym first) (subst (λ (e : Event). R a e) (sym second) pair);
}

-- an order of numbers is one of events
pub order_of_events : (order : Order) (within : Bool) (x : Execution) (all : List Access) (firsts : List ℕ) → IsIndexed x.threads → all ≡ all_accesses x.threads → AreNumbered all firsts
    → (numbers : List ℕ) → IsOrderOf (length all) (Told all (SomeKind (ExternalPair order within x))) numbers → (ids : List EventId) → ids ≡ map (λ v. id_at all v) numbers
    → IsEventOrder order within x ids
order_of_events order within x all firsts indexed same numbered numbers is ids are =
    subst (λ (l : List EventId). IsEventOrder order within x l) (sym are) (record {
      each = record { only = only; once = once; each = each };
      forward = λ a b pair. forward a b pair;
    }) where
      only : (id : EventId) → StandsIn (map (λ v. id_at all v) numbers) id → StandsIn (access_ids x.threads) id
      only id there =
          let (v, stands, named) = stands_image (λ v. id_at all v) numbers id there in
          let (a, here) = element all v (is.below v stands) in
          let id_is = id_here all v a here in
          let mapped = stands_map (λ (c : Access). c.id) (all_accesses x.threads) a (v, subst (λ (l : List Access). slice_get l v ≡ Some a) same here) in
          subst (λ (e : EventId). StandsIn (access_ids x.threads) e) (sym id_is ∙ named) mapped

      each : (id : EventId) → StandsIn (access_ids x.threads) id → StandsIn (map (λ v. id_at all v) numbers) id
      each id there =
          let (a, stands, named) = stands_image (λ (c : Access). c.id) (all_accesses x.threads) id there in
          let (n, at) = stands in
          let here = subst (λ (l : List Access). slice_get l n ≡ Some a) (sym same) at in
          let mapped = stands_map (λ v. id_at all v) numbers n (is.each n (place_below all n a here)) in
          subst (λ (e : EventId). StandsIn (map (λ v. id_at all v) numbers) e) (id_here all n a here ∙ named) mapped

      once : IsDistinct (map (λ v. id_at all v) numbers)
      once i j id first second =
          let (v, at_v, named_v) = image_at (λ v. id_at all v) numbers i id first in
          let (w, at_w, named_w) = image_at (λ v. id_at all v) numbers j id second in
          let (a, here) = element all v (is.below v (i, at_v)) in
          let (b, there) = element all w (is.below w (j, at_w)) in
          let number = same_number all firsts numbered id v w a b (record { here = here; named = sym (id_here all v a here) ∙ named_v }) (record { here = there; named = sym (id_here all w b there) ∙ named_w }) in
          is.once i j v at_v (subst (λ (n : ℕ). slice_get numbers j ≡ Some n) (sym number) at_w)

      forward : (a b : Event) → IsExternalPair order within x a b → Earlier (map (λ v. id_at all v) numbers) a.id b.id
      forward a b pair =
          let (m, one, here, first) = numbered_event x all indexed same a pair.first in
          let (n, two, there, second) = numbered_event x all indexed same b pair.second in
          let before = is.forward m n (told_of x all (SomeKind (ExternalPair order within x)) a b m n one two here there first second pair.pair) in
          let id_a = id_here all m one here ∙ ap {B = EventId} (λ (e : Event). e.id) first in
          let id_b = id_here all n two there ∙ ap {B = EventId} (λ (e : Event). e.id) second in
          let At : ℕ → EventId → Type 0 = λ i e. slice_get (map (λ v. id_at all v) numbers) i ≡ Some e in
          record {
            i = before.i;
            j = before.j;
            order = before.order;
            first = subst (At before.i) id_a (at_image (λ v. id_at all v) numbers before.i m before.first);
            second = subst (At before.j) id_b (at_image (λ v. id_at all v) numbers before.j n before.second);
          }

-- along pairs that go forward, an event stands later
along : (R : Event → Event → Type 0) (ids : List EventId) → IsDistinct ids → ((a b : Event) → R a b → Earlier ids a.id b.id) → (a : Event) (via : List Event) (b : Event)
    → Chain R a via b → Earlier ids a.id b.id
along R ids once forward a [] b pair = forward a b pair
along R ids once forward a (v ∷ via) b (pair, rest) =
    let first = forward a v pair in
    let later = along R ids once forward v via b rest in
    let same = once first.j later.i v.id first.second later.first in
    let low = first.order in
    let high = later.order in
    record { i = first.i; j = later.j; order = omega arith; first = first.first; second = later.second }

-- where there is an order, there is no cycle
order_excludes : (order : Order) (within : Bool) (x : Execution) (ids : List EventId) → IsEventOrder order within x ids → HasExternalCycle order within x → ⊥
order_excludes order within x ids is (a, via, round) =
    let before = along (IsExternalPair order within x) ids is.each.once is.forward a via a round in
    let same = is.each.once before.i before.j a.id before.first before.second in
    let less = before.order in
    omega arith

-- no order is found just where there is a cycle
pub cyclic_some : (order : Order) (within : Bool) (x : Execution) (ids : List EventId) (A : Type 0) → IsEventOrder order within x ids → (A → ⊥) → A ↔ HasExternalCycle order within x
cyclic_some order within x ids A is not = ((λ none. absurd (not none)), (λ cycle. absurd (order_excludes order within x ids is cycle)))

-- what is said of an answer that is there, and of one that is not
some_of : {V : Type 0} (items : V → List ℕ) (A : Type 0) (P : List ℕ → Type 0) (found : Option V) (v : V) → found ≡ Some v → MatchOption found A (λ w. P (items w)) → P (items v)
some_of items A P None v is holds = absurd cc
some_of items A P (Some w) v is holds = let same : w ≡ v = cc in subst (λ u. P (items u)) same holds

none_of : {V : Type 0} (A : Type 0) (B : V → Type 0) (found : Option V) → found ≡ None → MatchOption found A B → A
none_of A B None is holds = holds
none_of A B (Some w) is holds = absurd cc

-- the accesses of a slice of the threads are those of the threads
pub all_of : (all : List Access) (slice threads : List ThreadRun) → slice ≡ threads → all ≡ all_accesses slice → all ≡ all_accesses threads
all_of all slice threads same is = subst (λ (l : List ThreadRun). all ≡ all_accesses l) same is

-- the ids of the numbers that were found are an order of events
pub found_order : {V : Type 0} (items : V → List ℕ) (order : Order) (within : Bool) (x : Execution) (all : List Access) (firsts : List ℕ) → IsIndexed x.threads → all ≡ all_accesses x.threads
    → AreNumbered all firsts → (found : Option V) (v : V) → found ≡ Some v
    → MatchOption found (HasRound (Told all (SomeKind (ExternalPair order within x)))) (λ w. IsOrderOf (length all) (Told all (SomeKind (ExternalPair order within x))) (items w))
    → (slice : List ℕ) → slice ≡ items v → (made ids : List EventId) → made ≡ map (λ n. id_at all n) slice → ids ≡ made → IsEventOrder order within x ids
found_order items order within x all firsts indexed same numbered found v is answer slice slice_is made ids made_is ids_is =
    let pairs = Told all (SomeKind (ExternalPair order within x)) in
    let ordered = some_of items (HasRound pairs) (λ l. IsOrderOf (length all) pairs l) found v is answer in
    order_of_events order within x all firsts indexed same numbered (items v) ordered ids
    (ids_is ∙ subst (λ (l : List ℕ). made ≡ map (λ n. id_at all n) l) slice_is made_is)

-- where no numbers were found, events have a cycle
pub found_cycle : {V : Type 0} (items : V → List ℕ) (order : Order) (within : Bool) (x : Execution) (all : List Access) → IsIndexed x.threads → all ≡ all_accesses x.threads
    → (found : Option V) → found ≡ None
    → MatchOption found (HasRound (Told all (SomeKind (ExternalPair order within x)))) (λ w. IsOrderOf (length all) (Told all (SomeKind (ExternalPair order within x))) (items w))
    → HasExternalCycle order within x
found_cycle items order within x all indexed same found is answer =
    let pairs = Told all (SomeKind (ExternalPair order within x)) in
    cycle_of x all (SomeKind (ExternalPair order within x)) indexed same (none_of (HasRound pairs) (λ w. IsOrderOf (length all) pairs (items w)) found is answer)
