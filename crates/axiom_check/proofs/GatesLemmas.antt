-- The last fences before accesses, and what they decide.
use Rattle.std.proofs.Common.{◌≡◌, ◌≤◌, ◌+◌, ◌++◌, ◌↔◌, ℕ, zero, suc, Bool, true, IsTrue, List, [], ◌∷◌, length, Option, Some, IsSomeAnd, ◌⊎◌, inl, inr, refl, sym, ap, subst, arith, length-append}
use Rattle.std.specs.List.{slice_get}
use Rattle.std.specs.Option.{option_map}
use Rattle.std.proofs.lemmas.Bool.{cases_lt}
use Rattle.std.proofs.lemmas.Option.{slice_get-map}
use Rattle.ev_graph.specs.declared.events.Access.{Access}
use Rattle.ev_graph.specs.declared.events.FenceItem.{FenceItem}
use Rattle.ev_graph.specs.declared.events.FenceKind.{FenceKind}
use Rattle.ev_graph.specs.declared.events.Item.{Item}
use Rattle.ev_graph.specs.declared.events.Item.TheVariants as item
use Rattle.ev_graph.specs.Events.{Event, IsRead, IsWrite, IsLocked, LockedPairAt, accesses, accesses_before, event, events, FenceBetween}
use Rattle.ev_graph.proofs.Numbers.{mono, more, same_before, before_past, fence_no_access}
use Rattle.ev_graph.specs.declared.events.AccessKind.TheVariants as access
use Rattle.ev_graph.specs.declared.events.EventId.{EventId}
use Rattle.order_models.specs.declared.doors.Door.{Door}
use Rattle.order_models.specs.declared.doors.Opening.{Opening}
use Rattle.order_models.specs.declared.doors.Opening.TheVariants as opening
use Rattle.order_models.specs.declared.doors.Side.{Side}
use Rattle.order_models.specs.declared.doors.Side.TheVariants as side
use Rattle.order_models.specs.Doors.{FenceAfter, IsOfSide}
use Rattle.axiom_check.specs.Gates.{IsLastBelow, IsLast, AreLasts, IsListing, IsAt, IsWide, IsPairEdge, IsSlotAt, kind_of_side}
use Rattle.axiom_check.specs.Numbers.{IsEdgeOf}
use Rattle.topo.specs.declared.edge.Edge.{Edge}
use Rattle.axiom_check.specs.Gains.{Gains, Below}
use Rattle.axiom_check.specs.declared.lanes.Slot.{Slot}
use Rattle.axiom_check.proofs.GainsLemmas.{gains_as, gains_none}
use Rattle.axiom_check.proofs.LanesLemmas.{place_below}
use Rattle.axiom_check.proofs.NumberLemmas.{get_cases}

one_more : (xs : List ℕ) (value n v : ℕ) → slice_get (xs ++ value ∷ []) n ≡ Some v → (slice_get xs n ≡ Some v) ⊎ ((n ≡ length xs) × (v ≡ value))
one_more xs value n v here = elim (get_cases xs (value ∷ []) n v here) [
  | inl before ↦ inl before
  | inr (zero, is, there) ↦ inr ((omega arith), cc)
  | inr (suc m, is, there) ↦ absurd cc
]

next_of : (items : List Item) (place : ℕ) → suc place ≡ place + 1
next_of items place = omega arith

-- an access is passed
pub pass_access : (kind : FenceKind) (items : List Item) (place count value : ℕ) (lasts : List ℕ) (a : Access) → slice_get items place ≡ Some (item.Access a)
    → IsListing kind items place count value lasts → IsListing kind items (place + 1) (count + 1) value (lasts ++ value ∷ [])
pass_access kind items place count value lasts a here listing =
    let counted = listing.counted in
    let size = listing.size in
    let up = more items place a here in
    let step = next_of items place in
    let moved = subst (λ (p : ℕ). accesses_before items p ≡ suc (accesses_before items place)) step up in
    record {
      counted = omega arith;
      size = omega (arith, length-append lasts (value ∷ []));
      last = λ n le. (let before = listing.last n (omega arith) in record {
        there = λ some. (let (p, less, fence, few, is) = before.there some in (p, (omega arith), fence, few, is));
        most = λ p less fence few. elim (cases_lt p place) [
          | inl earlier ↦ before.most p earlier fence few
          | inr later ↦ absurd (let same : p ≡ place = omega arith in
              fence_no_access items place fence.fence a (subst (λ (q : ℕ). slice_get items q ≡ Some (item.Fence fence.fence)) same fence.here) here)
        ];
      });
      told = λ n v there. elim (one_more lasts value n v there) [
        | inl before ↦ listing.told n v before
        | inr (at, is) ↦ (let n_is : count ≡ n = omega arith in
            let last = listing.last count (omega arith) in
            let whole : IsLast kind items count value = record {
              there = λ some. (let (p, less, fence, few, is_value) = last.there some in (p, place_below items p _ fence.here, fence, few, is_value));
              most = λ p less fence few. elim (cases_lt p place) [
                | inl earlier ↦ last.most p earlier fence few
                | inr later ↦ elim (cases_lt place p) [
                  | inl past ↦ absurd (let rises = mono items (place + 1) p (omega arith) in omega arith)
                  | inr not_past ↦ absurd (let same : p ≡ place = omega arith in
                      fence_no_access items place fence.fence a (subst (λ (q : ℕ). slice_get items q ≡ Some (item.Fence fence.fence)) same fence.here) here)
                ]
              ];
            } in
            subst (λ (k : ℕ). IsLast kind items k v) n_is (subst (λ (w : ℕ). IsLast kind items count w) (sym is) whole))
      ];
    }

still : (items : List Item) (place : ℕ) → ((a : Access) → slice_get items place ≡ Some (item.Access a) → ⊥) → accesses_before items (place + 1) ≡ accesses_before items place
still items place none = same_before items place none

-- a fence of the kind is passed
pub pass_fence : (kind : FenceKind) (items : List Item) (place count value : ℕ) (lasts : List ℕ) (f : FenceItem) → slice_get items place ≡ Some (item.Fence f) → f.kind ≡ kind
    → IsListing kind items place count value lasts → IsListing kind items (place + 1) count (count + 1) lasts
pass_fence kind items place count value lasts f here same listing =
    let counted = listing.counted in
    let stays = still items place (λ a at. fence_no_access items place f a here at) in
    record {
      counted = omega arith;
      size = listing.size;
      last = λ n le. record {
        there = λ some. (place, (omega arith), record { fence = f; here = here; same = same }, (omega arith), (omega arith));
        most = λ p less fence few. (let rises = mono items p place (omega arith) in omega arith);
      };
      told = listing.told;
    }

-- another item is passed
pub pass_other : (kind : FenceKind) (items : List Item) (place count value : ℕ) (lasts : List ℕ) (one : Item) → slice_get items place ≡ Some one
    → ((a : Access) → one ≡ item.Access a → ⊥) → (((f : FenceItem) × (one ≡ item.Fence f) × (f.kind ≡ kind)) → ⊥)
    → IsListing kind items place count value lasts → IsListing kind items (place + 1) count value lasts
pass_other kind items place count value lasts one here no_access no_fence listing =
    let counted = listing.counted in
    let stays = still items place (λ a access. no_access a cc) in
    record {
      counted = omega arith;
      size = listing.size;
      last = λ n le. (let before = listing.last n le in record {
        there = λ some. (let (p, less, fence, few, is) = before.there some in (p, (omega arith), fence, few, is));
        most = λ p less fence few. elim (cases_lt p place) [
          | inl earlier ↦ before.most p earlier fence few
          | inr later ↦ absurd (let same : p ≡ place = omega arith in
              let moved = subst (λ (q : ℕ). slice_get items q ≡ Some (item.Fence fence.fence)) same fence.here in
              no_fence (fence.fence, (let is : one ≡ item.Fence fence.fence = cc in is), fence.same))
        ];
      });
      told = listing.told;
    }

-- all items are passed
pub passed_all : (kind : FenceKind) (items : List Item) (place count value : ℕ) (lasts : List ℕ) → place ≡ length items
    → IsListing kind items place count value lasts → AreLasts kind items (lasts ++ value ∷ [])
passed_all kind items place count value lasts all listing =
    let counted = listing.counted in
    let size = listing.size in
    let past = before_past items place (omega arith) in
    record {
      size = omega (arith, length-append lasts (value ∷ []));
      told = λ n v there. elim (one_more lasts value n v there) [
        | inl before ↦ listing.told n v before
        | inr (at, is) ↦ (let n_is : count ≡ n = omega arith in
            let last = subst (λ (p : ℕ). IsLastBelow kind items p count value) all (listing.last count (omega arith)) in
            subst (λ (k : ℕ). IsLast kind items k v) n_is (subst (λ (w : ℕ). IsLast kind items count w) (sym is) last))
      ];
    }

-- a fence stands behind just n accesses where the last before access n does
pub fence_after : (kind : FenceKind) (items : List Item) (n value : ℕ) → IsLast kind items n value → FenceAfter kind items n ↔ (value ≡ n + 1)
fence_after kind items n value last = (
  (λ fence. let behind = fence.behind in
      let low = last.most fence.place (place_below items fence.place _ fence.here) (record { fence = fence.fence; here = fence.here; same = fence.same }) (omega arith) in
      let (p, less, at, few, is) = last.there (omega arith) in
      omega arith),
  (λ is_next. let (p, less, at, few, is) = last.there (omega arith) in
      record { place = p; fence = at.fence; here = at.here; same = at.same; behind = omega arith }),
)

-- a fence stands between where the last before the second access does not stand before the first
pub fence_between : (kind : FenceKind) (items : List Item) (m n value : ℕ) → IsLast kind items n value → FenceBetween kind items m n ↔ (m + 2 ≤ value)
fence_between kind items m n value last = (
  (λ fence. let behind = fence.behind in
      let low = last.most fence.place (place_below items fence.place _ fence.here) (record { fence = fence.fence; here = fence.here; same = fence.same }) fence.ahead in
      omega arith),
  (λ reaches. let (p, less, at, few, is) = last.there (omega arith) in
      record { place = p; fence = at.fence; here = at.here; same = at.same; behind = omega arith; ahead = few }),
)

-- what holds of the access with a number
pub at_access : (P : Event → Type 0) (items : List Item) (m : ℕ) (a : Access) → slice_get (accesses items) m ≡ Some a → IsSomeAnd (slice_get (events items) m) P ↔ P (event a)
at_access P items m a here =
    let mapped = slice_get-map event (accesses items) m in
    let is : slice_get (events items) m ≡ Some (event a) = let at = ap (option_map event) here in cc in
    let Of : Option Event → Type 0 = λ o. IsSomeAnd o P in
    ((λ holds. subst Of is holds), (λ holds. subst Of (sym is) holds))

pub side_before : (s : Side) (k : FenceKind) → s ≡ side.Before k → (items : List Item) (m : ℕ) (a : Access) (lasts : List ℕ) (result : Bool) → slice_get (accesses items) m ≡ Some a
    → AreLasts (kind_of_side s) items lasts → ((f : FenceKind) (xs : List Item) → AreLasts f xs lasts → IsTrue result ↔ ((a.kind ≡ access.Read) × FenceAfter f xs (m + 1)))
    → IsTrue result ↔ IsOfSide s items m
side_before s k is items m a lasts result here last test =
    let Goal : Side → Type 0 = λ t. AreLasts (kind_of_side t) items lasts → IsTrue result ↔ IsOfSide t items m in
    let read = at_access IsRead items m a here in
    let proved : Goal (side.Before k) = λ at. let law = test k items at in
    ((λ yes. (read.1 (law.0 yes).0, (law.0 yes).1)), (λ both. law.1 (read.0 both.0, both.1))) in
    subst Goal (sym is) proved last

pub side_after : (s : Side) (k : FenceKind) → s ≡ side.After k → (items : List Item) (m : ℕ) (a : Access) (lasts : List ℕ) (result : Bool) → slice_get (accesses items) m ≡ Some a
    → AreLasts (kind_of_side s) items lasts → ((f : FenceKind) (xs : List Item) → AreLasts f xs lasts → IsTrue result ↔ ((a.kind ≡ access.Write) × FenceAfter f xs m))
    → IsTrue result ↔ IsOfSide s items m
side_after s k is items m a lasts result here last test =
    let Goal : Side → Type 0 = λ t. AreLasts (kind_of_side t) items lasts → IsTrue result ↔ IsOfSide t items m in
    let write = at_access IsWrite items m a here in
    let proved : Goal (side.After k) = λ at. let law = test k items at in
    ((λ yes. (write.1 (law.0 yes).0, (law.0 yes).1)), (λ both. law.1 (write.0 both.0, both.1))) in
    subst Goal (sym is) proved last

last_le : (kind : FenceKind) (items : List Item) (n v w : ℕ) → IsLast kind items n v → IsLast kind items n w → v ≤ w
last_le kind items n v w first second = elim (cases_lt 0 v) [
  | inl some ↦ (let (p, less, at, few, is) = first.there some in let low = second.most p less at few in omega arith)
  | inr none ↦ omega arith
]

-- an access has one place as a target
same_at : (o : Opening) (items : List Item) (m p q : ℕ) → IsAt o items m p → IsAt o items m q → p ≡ q
same_at opening.Always items m p q first second = omega arith
same_at (opening.Fence kind) items m p q first second = let low = last_le kind items m p q first second in let high = last_le kind items m q p second first in omega arith
same_at opening.Pair items m p q first second = absurd first

pub gate_source : (all : List Access) (items : List Item) (s : Side) (m : ℕ) (id : EventId) (tag k place : ℕ) (old new : List Slot) → tag ≡ 16 + k → IsOfSide s items m
    → Gains (IsSlotAt all id tag place) old new → Gains (λ slot. IsOfSide s items m × IsSlotAt all id (16 + k) place slot) old new
gate_source all items s m id tag k place old new is of_side gains =
    let moved = subst (λ (t : ℕ). Gains (IsSlotAt all id t place) old new) is gains in
    gains_as (IsSlotAt all id (16 + k) place) (λ slot. IsOfSide s items m × IsSlotAt all id (16 + k) place slot) old new moved (λ slot holds. (of_side, holds)) (λ slot both. both.1)

pub gate_target : (all : List Access) (items : List Item) (o : Opening) (s : Side) (m : ℕ) (id : EventId) (tag k place : ℕ) (old new : List Slot) → tag ≡ 16 + k → IsOfSide s items m
    → IsAt o items m place → Gains (IsSlotAt all id tag place) old new
    → Gains (λ slot. IsOfSide s items m × ((p : ℕ) × IsAt o items m p × IsSlotAt all id (16 + k) p slot)) old new
gate_target all items o s m id tag k place old new is of_side at gains =
    let moved = subst (λ (t : ℕ). Gains (IsSlotAt all id t place) old new) is gains in
    gains_as (IsSlotAt all id (16 + k) place) (λ slot. IsOfSide s items m × ((p : ℕ) × IsAt o items m p × IsSlotAt all id (16 + k) p slot)) old new moved
    (λ slot holds. (of_side, (place, at, holds)))
    (λ slot both. let (p, also, holds) = both.1 in
    let same = same_at o items m p place also at in
    subst (λ (q : ℕ). IsSlotAt all id (16 + k) q slot) same holds)

-- the halves of an atomic instruction, by what is known of two accesses
halves : (items : List Item) (m : ℕ) (first second : Access) → slice_get (accesses items) m ≡ Some first → slice_get (accesses items) (m + 1) ≡ Some second
    → LockedPairAt items m (m + 1) ↔ ((first.kind ≡ access.Read) × (first.locked ≡ true) × (second.kind ≡ access.Write) × (second.locked ≡ true))
halves items m first second here there = (
  (λ pair. (
    (at_access IsRead items m first here).0 pair.1,
    (at_access IsLocked items m first here).0 pair.2,
    (at_access IsWrite items (m + 1) second there).0 pair.3,
    (at_access IsLocked items (m + 1) second there).0 pair.4,
  )),
  (λ known. (
    refl,
    (at_access IsRead items m first here).1 known.0,
    (at_access IsLocked items m first here).1 known.1,
    (at_access IsWrite items (m + 1) second there).1 known.2,
    (at_access IsLocked items (m + 1) second there).1 known.3,
  )),
)

pub pair_edge : (all : List Access) (items : List Item) (own : List Access) (door : Door) (m : ℕ) (a first second : Access) (old new : List Edge) → accesses items ≡ own
    → slice_get own m ≡ Some a → slice_get own m ≡ Some first → slice_get own (m + 1) ≡ Some second
    → ((first.kind ≡ access.Read) × (first.locked ≡ true) × (second.kind ≡ access.Write) × (second.locked ≡ true))
    → IsOfSide door.from items m → IsOfSide door.to items (m + 1)
    → Gains (IsEdgeOf all first.id second.id) old new → Gains (IsPairEdge all items door m a) old new
pair_edge all items own door m a first second old new is here_a here there known from to gains =
    let same : first ≡ a = cc in
    let here_own = subst (λ (l : List Access). slice_get l m ≡ Some first) (sym is) here in
    let there_own = subst (λ (l : List Access). slice_get l (m + 1) ≡ Some second) (sym is) there in
    let pair = (halves items m first second here_own there_own).1 known in
    gains_as (IsEdgeOf all first.id second.id) (IsPairEdge all items door m a) old new gains
    (λ e edge. (second, there_own, from, to, pair, subst (λ (c : Access). IsEdgeOf all c.id second.id e) same edge))
    (λ e (b, there_b, from_side, to_side, locked, edge).
    let other : b ≡ second = cc in
    subst (λ (c : Access). IsEdgeOf all first.id c.id e) other (subst (λ (c : Access). IsEdgeOf all c.id b.id e) (sym same) edge))

pub pair_none : (all : List Access) (items : List Item) (own : List Access) (door : Door) (m : ℕ) (a first second : Access) (edges : List Edge) → accesses items ≡ own
    → slice_get own m ≡ Some first → slice_get own (m + 1) ≡ Some second
    → (((first.kind ≡ access.Read) × (first.locked ≡ true) × (second.kind ≡ access.Write) × (second.locked ≡ true)) → ⊥)
    → Gains (IsPairEdge all items door m a) edges edges
pair_none all items own door m a first second edges is here there unknown =
    let here_own = subst (λ (l : List Access). slice_get l m ≡ Some first) (sym is) here in
    let there_own = subst (λ (l : List Access). slice_get l (m + 1) ≡ Some second) (sym is) there in
    gains_none (IsPairEdge all items door m a) edges (λ e (b, there_b, from_side, to_side, locked, edge). unknown ((halves items m first second here_own there_own).0 locked))

-- the last access of a thread is no first half
pub pairs_all : (all : List Access) (items : List Item) (own : List Access) (door : Door) (n : ℕ) (old new : List Edge) → accesses items ≡ own → length own ≤ n + 1
    → Gains (Below own (IsPairEdge all items door) n) old new → Gains (Below own (IsPairEdge all items door) (length own)) old new
pairs_all all items own door n old new is most gains =
    gains_as (Below own (IsPairEdge all items door) n) (Below own (IsPairEdge all items door) (length own)) old new gains
    (λ e (m, a, less, here, pair). (m, a, place_below own m a here, here, pair))
    (λ e (m, a, less, here, pair).
    let (b, there, from_side, to_side, locked, edge) = pair in
    let there_own = subst (λ (l : List Access). slice_get l (m + 1) ≡ Some b) is there in
    let below = place_below own (m + 1) b there_own in
    (m, a, (omega arith), here, pair))

-- an opening that is no pair is told by sides and places
pub wide : (o : Opening) → (o ≡ opening.Pair → ⊥) → IsWide o
wide opening.Always not_pair = tt
wide (opening.Fence kind) not_pair = tt
wide opening.Pair not_pair = not_pair refl

pub not_wide : (o : Opening) → o ≡ opening.Pair → IsWide o → ⊥
not_wide o is = let Goal : Opening → Type 0 = λ p. IsWide p → ⊥ in subst Goal (sym is) (λ never. never)

-- what is gained by a gate is gained by its door
pub door_gains : {X : Type 0} (W : Type 0) → W → (items : List Item) (own : List Access) (other door : Door) (F : Door → ℕ → Access → X → Type 0) (old new : List X)
    → other ≡ door → accesses items ≡ own → Gains (Below own (F other) (length own)) old new
    → Gains (λ x. W × Below (accesses items) (F door) (length (accesses items)) x) old new
door_gains {X} W holds items own other door F old new same is gains =
    let Below_of : List Access → Door → X → Type 0 = λ l d. Below l (F d) (length l) in
    let moved = subst (λ (d : Door). Gains (Below_of (accesses items) d) old new) same (subst (λ (l : List Access). Gains (Below_of l other) old new) (sym is) gains) in
    gains_as (Below_of (accesses items) door) (λ x. W × Below_of (accesses items) door x) old new moved (λ x below. (holds, below)) (λ x both. both.1)

pub door_gains_none : {X : Type 0} (W : Type 0) → (W → ⊥) → (P : X → Type 0) (xs : List X) → Gains (λ x. W × P x) xs xs
door_gains_none W never P xs = gains_none (λ x. W × P x) xs (λ x both. never both.0)
