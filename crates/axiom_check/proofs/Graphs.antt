-- From orders and cycles of a graph with inner nodes to those of its pairs.
use Rattle.std.proofs.Common.{◌≡◌, ◌<◌, ◌≤◌, ◌++◌, ℕ, zero, suc, Bool, true, false, cond, List, [], ◌∷◌, Some, ◌⊎◌, inl, inr, refl, sym, subst, arith, ltb, ltb-true, append_assoc, filter, Option, None, MatchOption, append-nil}
use Rattle.std.specs.List.{slice_get, All}
use Rattle.std.proofs.lemmas.Option.{get_or_from_slice_get}
use Rattle.std.proofs.lemmas.Bool.{cases_lt, lt-ltb, le-ltb}
use Rattle.ev_graph.specs.Places.{IsDistinct, Earlier}
use Rattle.ev_graph.specs.Cycle.{Chain}
use Rattle.ev_graph.proofs.Members.{distinct_head, distinct_tail, distinct_cons, stands_filter, stands_filtered}
use Rattle.topo.specs.declared.edge.Edge.{Edge}
use Rattle.topo.specs.Order.{Leads, IsOrder, HasCycle}
use Rattle.topo.proofs.CallerLemmas.{earlier}
use Rattle.axiom_check.specs.Lanes.{AreBelow, AreOfEvents, AreInner, Crosses, IsEventsOf, IsGraphOf, IsOrderOf, HasRound}
use Rattle.axiom_check.proofs.LanesLemmas.{element}
use Rattle.axiom_check.specs.declared.lanes.Slot.{Slot}

-- a way through v is one to v and one from v
pub chain_split : {A : Type 0} (R : A → A → Type 0) (a : A) (front : List A) (v : A) (back : List A) (b : A)
    → Chain R a (front ++ v ∷ back) b → Chain R a front v × Chain R v back b
chain_split R a [] v back b way = way
chain_split R a (w ∷ front) v back b (first, way) = let rest = chain_split R w front v back b way in ((first, rest.0), rest.1)

pub chain_join : {A : Type 0} (R : A → A → Type 0) (a : A) (front : List A) (v : A) (back : List A) (b : A)
    → Chain R a front v → Chain R v back b → Chain R a (front ++ v ∷ back) b
chain_join R a [] v back b first second = (first, second)
chain_join R a (w ∷ front) v back b (first, way) second = (first, chain_join R w front v back b way second)

inner_push : (events : ℕ) (pre : List ℕ) (v : ℕ) → AreInner events pre → events ≤ v → AreInner events (pre ++ v ∷ [])
inner_push events [] v inner above = (above, tt)
inner_push events (w ∷ pre) v (first, inner) above = (first, inner_push events pre v inner above)

-- the events of a way through a graph are a way by pairs
pub skip : (events nodes : ℕ) (edges : List Edge) (R : ℕ → ℕ → Type 0) → IsGraphOf events nodes edges R
    → (pre : List ℕ) (a : ℕ) (via : List ℕ) (b : ℕ) → a < events → b < events → AreInner events pre
    → Chain (Leads edges) a (pre ++ via) b → Chain R a (filter (λ v. ltb v events) via) b
skip events nodes edges R graph pre a [] b in_a in_b inner way =
    graph.sound a b pre in_a in_b inner (let same : pre ++ [] ≡ pre = append-nil pre in subst (λ (l : List ℕ). Chain (Leads edges) a l b) same way)
skip events nodes edges R graph pre a (w ∷ via) b in_a in_b inner way = elim (cases_lt w events) [
  | inl event ↦ (let (first, rest) = chain_split (Leads edges) a pre w via b way in
      rw (lt-ltb w events event) (graph.sound a w pre in_a event inner first, skip events nodes edges R graph [] w via b event in_b tt rest))
  | inr above ↦ rw (le-ltb w events above) (
      skip events nodes edges R graph (pre ++ w ∷ []) a via b in_a in_b (inner_push events pre w inner above)
      (subst (λ (l : List ℕ). Chain (Leads edges) a l b) (sym (append_assoc pre (w ∷ []) via)) way))
]

-- no way leads back through inner nodes alone
inner_rises : (events nodes : ℕ) (edges : List Edge) (R : ℕ → ℕ → Type 0) → IsGraphOf events nodes edges R
    → (a : ℕ) (via : List ℕ) (b : ℕ) → events ≤ a → events ≤ b → AreInner events via → Chain (Leads edges) a via b → a < b
inner_rises events nodes edges R graph a [] b in_a in_b inner way = graph.rises (record { from = a; to = b }) way in_a in_b
inner_rises events nodes edges R graph a (w ∷ via) b in_a in_b (above, inner) (first, way) =
    let low = graph.rises (record { from = a; to = w }) first in_a above in
    let high = inner_rises events nodes edges R graph w via b above in_b inner way in
    omega arith

-- a list has an event, with what stands before and behind it, or is of inner nodes alone
first_event : (events : ℕ) (via : List ℕ)
    → ((front : List ℕ) × (v : ℕ) × (back : List ℕ) × (via ≡ front ++ v ∷ back) × (v < events)) ⊎ AreInner events via
first_event events [] = inr tt
first_event events (w ∷ via) = elim (cases_lt w events) [
  | inl event ↦ inl ([], w, via, refl, event)
  | inr above ↦ elim (first_event events via) [
    | inl (front, v, back, is, event) ↦ inl (w ∷ front, v, back, (rw is refl), event)
    | inr inner ↦ inr (above, inner)
  ]
]

-- a cycle of the graph has a cycle of pairs
pub round : (events nodes : ℕ) (edges : List Edge) (R : ℕ → ℕ → Type 0) → IsGraphOf events nodes edges R → HasCycle edges → HasRound R
round events nodes edges R graph cycle = elim (cases_lt cycle.first events) [
  | inl event ↦ (cycle.first, filter (λ v. ltb v events) cycle.between, skip events nodes edges R graph [] cycle.first cycle.between cycle.first event event tt cycle.round)
  | inr above ↦ elim (first_event events cycle.between) [
    | inl (front, v, back, is, event) ↦ (let way = subst (λ (l : List ℕ). Chain (Leads edges) cycle.first l cycle.first) is cycle.round in
        let (to, from) = chain_split (Leads edges) cycle.first front v back cycle.first way in
        let turned = chain_join (Leads edges) v back cycle.first front v from to in
        (v, filter (λ w. ltb w events) (back ++ cycle.first ∷ front), skip events nodes edges R graph [] v (back ++ cycle.first ∷ front) v event event tt turned))
    | inr inner ↦ absurd (let rises = inner_rises events nodes edges R graph cycle.first cycle.between cycle.first above above inner cycle.round in omega arith)
  ]
]

-- a filtered list is distinct where the whole is
pub filter_distinct : (p : ℕ → Bool) (xs : List ℕ) → IsDistinct xs → IsDistinct (filter p xs)
filter_distinct p [] once = once
filter_distinct p (y ∷ xs) once =
    let rest = filter_distinct p xs (distinct_tail xs y once) in
    let Goal : Bool → Type 0 = λ test. IsDistinct (cond test (y ∷ filter p xs) (filter p xs)) in
    elim (p y) as Goal [
      | true ↦ distinct_cons (filter p xs) y (λ there. distinct_head xs y once (stands_filtered p xs y there).0) rest
      | false ↦ rest
    ]

behind : (y a b : ℕ) (ys : List ℕ) → Earlier ys a b → Earlier (y ∷ ys) a b
behind y a b ys e = record { i = suc e.i; j = suc e.j; order = (let less = e.order in omega arith); first = e.first; second = e.second }

earlier_by : (p : ℕ → Bool) (a b : ℕ) → p a ≡ true → p b ≡ true → (xs : List ℕ) (i j : ℕ) → i < j → slice_get xs i ≡ Some a → slice_get xs j ≡ Some b → Earlier (filter p xs) a b
earlier_by p a b keeps_a keeps_b [] i j less first second = absurd cc
earlier_by p a b keeps_a keeps_b (y ∷ xs) i zero less first second = absurd (omega arith)
earlier_by p a b keeps_a keeps_b (y ∷ xs) zero (suc j) less first second =
    let is : a ≡ y = cc in
    let there = stands_filter p xs b (j, second) keeps_b in
    let kept : p y ≡ true = subst (λ z. p z ≡ true) is keeps_a in
    rw kept (record { i = 0; j = suc there.0; order = omega arith; first = cc; second = there.1 })
earlier_by p a b keeps_a keeps_b (y ∷ xs) (suc i) (suc j) less first second =
    let rest = earlier_by p a b keeps_a keeps_b xs i j (omega arith) first second in
    let Goal : Bool → Type 0 = λ test. Earlier (cond test (y ∷ filter p xs) (filter p xs)) a b in
    elim (p y) as Goal [ true ↦ behind y a b (filter p xs) rest | false ↦ rest ]

-- what stands earlier does so in a filtered list
pub filter_earlier : (p : ℕ → Bool) (xs : List ℕ) (a b : ℕ) → p a ≡ true → p b ≡ true → Earlier xs a b → Earlier (filter p xs) a b
filter_earlier p xs a b keeps_a keeps_b earlier = earlier_by p a b keeps_a keeps_b xs earlier.i earlier.j earlier.order earlier.first earlier.second

-- the events of an order of a graph are an order by its pairs
pub order_of_pairs : (events nodes : ℕ) (edges : List Edge) (R : ℕ → ℕ → Type 0) → IsGraphOf events nodes edges R → events ≤ nodes
    → ((a b : ℕ) → R a b → (a < events) × (b < events)) → (order : List ℕ) → IsOrder nodes edges order
    → IsOrderOf events R (filter (λ v. ltb v events) order)
order_of_pairs events nodes edges R graph more within order is = record {
  below = λ v there. ltb-true v events (stands_filtered (λ w. ltb w events) order v there).1;
  each = λ v less. stands_filter (λ w. ltb w events) order v (is.each v (omega arith)) (lt-ltb v events less);
  once = filter_distinct (λ w. ltb w events) order is.once;
  forward = λ a b pair.
      let ends = within a b pair in
      let (via, way) = graph.complete a b pair in
      filter_earlier (λ w. ltb w events) order a b (lt-ltb a events ends.0) (lt-ltb b events ends.1) (earlier nodes edges order is a via b way);
}

-- edges below a number, as the call of `order_or_cycle` asks
pub all_below : (n : ℕ) (edges slice : List Edge) → slice ≡ edges → AreBelow n edges → All (λ (e : Edge). (e.from < n) × (e.to < n)) slice
all_below n edges slice same below k d less =
    let there = element slice k less in
    let is = get_or_from_slice_get slice k there.0 d there.1 in
    let moved = subst (λ (l : List Edge). slice_get l k ≡ Some there.0) same there.1 in
    subst (λ (e : Edge). (e.from < n) × (e.to < n)) (sym is) (below there.0 (k, moved))

-- what the answer for a graph says of the pairs
pub answered : {V : Type 0} (items : V → List ℕ) (events nodes : ℕ) (edges : List Edge) (R : ℕ → ℕ → Type 0) → IsGraphOf events nodes edges R → events ≤ nodes
    → ((a b : ℕ) → R a b → (a < events) × (b < events)) → (found : Option V)
    → MatchOption found (HasCycle edges) (λ kept. IsEventsOf nodes edges events (items kept)) → MatchOption found (HasRound R) (λ order. IsOrderOf events R (items order))
answered items events nodes edges R graph more within None cycle = round events nodes edges R graph cycle
answered items events nodes edges R graph more within (Some kept) (order, is, filtered) = rw filtered (order_of_pairs events nodes edges R graph more within order is)

-- the pairs of lanes are between events
pub crosses_within : (events : ℕ) (direct : List Edge) (sources targets : List Slot) → AreBelow events direct → AreOfEvents events sources → AreOfEvents events targets
    → (a b : ℕ) → Crosses direct sources targets a b → (a < events) × (b < events)
crosses_within events direct sources targets direct_below sources_below targets_below a b (inl told) = direct_below _ told
crosses_within events direct sources targets direct_below sources_below targets_below a b (inr lanes) =
    let from = sources_below lanes.source lanes.source_there in
    let to = targets_below lanes.target lanes.target_there in
    let is_a = lanes.first in
    let is_b = lanes.second in
    (omega arith, omega arith)
