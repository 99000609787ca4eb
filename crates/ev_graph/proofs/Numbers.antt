-- Places among items, and the numbers of accesses: how many accesses stand before a place.
use Rattle.std.proofs.Common.{◌≡◌, ◌≤◌, ◌<◌, ◌+◌, ℕ, zero, suc, List, [], ◌∷◌, length, None, Some, ◌⊎◌, inl, inr, refl, sym, ◌∙◌, ap, arith}
use Rattle.std.specs.List.{slice_get}
use Rattle.std.proofs.lemmas.List.{take_all}
use Rattle.std.proofs.lemmas.Option.{slice_get_past}
use Rattle.ev_graph.specs.declared.events.Access.{Access}
use Rattle.ev_graph.specs.declared.events.FenceItem.{FenceItem}
use Rattle.ev_graph.specs.declared.events.FenceKind.{FenceKind}
use Rattle.ev_graph.specs.declared.events.Item.{Item}
use Rattle.ev_graph.specs.declared.events.Item.TheVariants as item
use Rattle.ev_graph.specs.Events.{accesses, accesses_before, FenceBetween}

-- an access has as its number how many accesses stand before its place
pub number : (items : List Item) (i : ℕ) (a : Access) → slice_get items i ≡ Some (item.Access a)
    → slice_get (accesses items) (accesses_before items i) ≡ Some a
number [] i a here = absurd cc
number (item.Access b ∷ items) zero a here = cc
number (other ∷ items) zero a here = absurd cc
number (item.Access b ∷ items) (suc i) a here = number items i a here
number (other ∷ items) (suc i) a here = number items i a here

-- each access of a thread has a place, before which its number of accesses stands
pub place : (items : List Item) (n : ℕ) (a : Access) → slice_get (accesses items) n ≡ Some a
    → (i : ℕ) × (slice_get items i ≡ Some (item.Access a)) × (accesses_before items i ≡ n)
place [] n a here = absurd cc
place (item.Access b ∷ items) zero a here = (0, cc, refl)
place (item.Access b ∷ items) (suc n) a here = let found = place items n a here in (suc found.0, found.1, ap suc found.2)
place (item.Fence f ∷ items) n a here = let found = place items n a here in (suc found.0, found.1, found.2)
place (item.Input v ∷ items) n a here = let found = place items n a here in (suc found.0, found.1, found.2)
place (item.Output v ∷ items) n a here = let found = place items n a here in (suc found.0, found.1, found.2)

-- no fewer accesses stand before a later place
pub mono : (items : List Item) (i j : ℕ) → i ≤ j → accesses_before items i ≤ accesses_before items j
mono items zero j le = omega arith
mono [] (suc i) j le = omega arith
mono (other ∷ items) (suc i) zero le = absurd (omega arith)
mono (item.Access a ∷ items) (suc i) (suc j) le = let more = mono items i j (omega arith) in omega arith
mono (other ∷ items) (suc i) (suc j) le = mono items i j (omega arith)

-- one more access stands behind an access
pub more : (items : List Item) (i : ℕ) (a : Access) → slice_get items i ≡ Some (item.Access a)
    → accesses_before items (suc i) ≡ suc (accesses_before items i)
more [] i a here = absurd cc
more (item.Access b ∷ items) zero a here = refl
more (other ∷ items) zero a here = absurd cc
more (item.Access b ∷ items) (suc i) a here = ap suc (more items i a here)
more (other ∷ items) (suc i) a here = more items i a here

-- as many accesses stand before two places with no access from the first to the second
pub steady : (items : List Item) (i j : ℕ) → i ≤ j
    → ((k : ℕ) (a : Access) → i ≤ k → k < j → slice_get items k ≡ Some (item.Access a) → ⊥)
    → accesses_before items i ≡ accesses_before items j
steady [] zero zero le none = refl
steady [] zero (suc j) le none = refl
steady [] (suc i) zero le none = refl
steady [] (suc i) (suc j) le none = refl
steady (other ∷ items) zero zero le none = refl
steady (item.Access a ∷ items) zero (suc j) le none = absurd (none 0 a (omega arith) (omega arith) refl)
steady (other ∷ items) zero (suc j) le none = steady items zero j (omega arith) (λ k a from to here. none (suc k) a (omega arith) (omega arith) here)
steady (other ∷ items) (suc i) zero le none = absurd (omega arith)
steady (item.Access b ∷ items) (suc i) (suc j) le none =
    ap suc (steady items i j (omega arith) (λ k a from to here. none (suc k) a (omega arith) (omega arith) here))
steady (other ∷ items) (suc i) (suc j) le none = steady items i j (omega arith) (λ k a from to here. none (suc k) a (omega arith) (omega arith) here)

-- an access with fewer accesses before it has the earlier place
pub place_order : (items : List Item) (i j : ℕ) → accesses_before items i < accesses_before items j → i < j
place_order items i j lt =
    let cases : (i < j) ⊎ (j ≤ i) = grind arith in
    elim cases [ inl less ↦ less | inr rest ↦ absurd (let back = mono items j i rest in omega arith) ]

-- what is a fence is no access
pub fence_no_access : (items : List Item) (k : ℕ) (f : FenceItem) (a : Access) → slice_get items k ≡ Some (item.Fence f) → slice_get items k ≡ Some (item.Access a) → ⊥
fence_no_access items k f a fence access = cc

-- a fence between two accesses, by their numbers, has its place between theirs
pub fence_from : (kind : FenceKind) (items : List Item) (i j : ℕ) (a b : Access) → slice_get items i ≡ Some (item.Access a) → slice_get items j ≡ Some (item.Access b)
    → (between : FenceBetween kind items (accesses_before items i) (accesses_before items j)) → (i < between.place) × (between.place < j)
fence_from kind items i j a b at_i at_j between = (
  place_order items i between.place between.behind,
  (let cases : (between.place < j) ⊎ ((between.place ≡ j) ⊎ (suc j ≤ between.place)) = grind arith in
      elim cases [
        | inl less ↦ less
        | inr (inl same) ↦ absurd (fence_no_access items j between.fence b (rw (← same) between.here) at_j)
        | inr (inr beyond) ↦ absurd (let more_before = mono items (suc j) between.place beyond in let one_more = more items j b at_j in let ahead = between.ahead in omega arith)
      ]),
)

-- a fence with its place between those of two accesses stands between them, by their numbers
pub fence_to : (kind : FenceKind) (items : List Item) (i j k : ℕ) (a : Access) (f : FenceItem) → slice_get items i ≡ Some (item.Access a)
    → i < k → k < j → slice_get items k ≡ Some (item.Fence f) → f.kind ≡ kind
    → FenceBetween kind items (accesses_before items i) (accesses_before items j)
fence_to kind items i j k a f at_i after before at_k same = record {
  place = k;
  fence = f;
  here = at_k;
  same = same;
  behind = let one_more = more items i a at_i in let rest = mono items (suc i) k (omega arith) in omega arith;
  ahead = mono items k j (omega arith);
}

-- the next access: none has its place between
pub next_from : (items : List Item) (i j k : ℕ) (a c : Access) → slice_get items i ≡ Some (item.Access a)
    → accesses_before items j ≡ accesses_before items i + 1 → i < k → k < j → slice_get items k ≡ Some (item.Access c) → ⊥
next_from items i j k a c at_i next after before at_k =
    let first = more items i a at_i in
    let second = more items k c at_k in
    let upto = mono items (suc i) k (omega arith) in
    let rest = mono items (suc k) j (omega arith) in
    omega arith

-- where no access has its place between, the later is the next
pub next_to : (items : List Item) (i j : ℕ) (a : Access) → slice_get items i ≡ Some (item.Access a) → i < j
    → ((k : ℕ) (c : Access) → i < k → k < j → slice_get items k ≡ Some (item.Access c) → ⊥)
    → accesses_before items j ≡ accesses_before items i + 1
next_to items i j a at_i after none =
    let first = more items i a at_i in
    let rest = steady items (suc i) j (omega arith) (λ k c from to here. none k c (omega arith) to here) in
    omega arith

-- one more access stands before the place behind an access
pub more_plus : (items : List Item) (i : ℕ) (a : Access) → slice_get items i ≡ Some (item.Access a)
    → accesses_before items (i + 1) ≡ accesses_before items i + 1
more_plus items i a here =
    let next : i + 1 ≡ suc i = omega arith in
    let one = more items i a here in
    rw next (omega arith)

-- as many accesses stand before the place behind what is no access
pub same_before : (items : List Item) (i : ℕ) → ((a : Access) → slice_get items i ≡ Some (item.Access a) → ⊥)
    → accesses_before items (i + 1) ≡ accesses_before items i
same_before items i none =
    let next : i + 1 ≡ suc i = omega arith in
    rw next (sym (steady items i (suc i) (omega arith) (λ k a from to here. let same : k ≡ i = omega arith in none a (rw (← same) here))))

-- all accesses stand before a place past the end
pub before_past : (items : List Item) (i : ℕ) → length items ≤ i → accesses_before items i ≡ length (accesses items)
before_past items i past = rw (take_all i items past) refl

-- the access at a place, by its number
pub found_at : (items : List Item) (place number index : ℕ) (a : Access) → slice_get items place ≡ Some (item.Access a)
    → accesses_before items place ≡ number → number ≡ index → Some a ≡ slice_get (accesses items) index
found_at items place number' index a here counted same =
    let at = number items place a here in
    let e : accesses_before items place ≡ index = counted ∙ same in
    sym (rw e at at)

-- no access has a number that stands before a place past the end
pub none_past : (items : List Item) (place number index : ℕ) → length items ≤ place → accesses_before items place ≡ number → number ≤ index
    → None ≡ slice_get (accesses items) index
none_past items place number' index past counted ahead =
    let all = before_past items place past in
    sym (slice_get_past (accesses items) index (omega arith))
