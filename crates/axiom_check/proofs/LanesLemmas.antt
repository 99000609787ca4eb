-- The graph of lanes: its ways from event to event through inner nodes alone are the pairs of the lanes.
use Rattle.std.proofs.Common.{◌≡◌, ◌<◌, ◌≤◌, ◌+◌, ◌-◌, ◌++◌, ◌↔◌, ℕ, zero, suc, true, false, ltb, ltb-true, get_or, List, [], ◌∷◌, length, Some, ◌⊎◌, inl, inr, refl, sym, ap, subst, arith}
use Rattle.std.specs.List.{slice_get}
use Rattle.std.proofs.lemmas.Bool.{cases_lt, ltb-false}
use Rattle.std.proofs.lemmas.Option.{get_or_from_slice_get}
use Rattle.std.proofs.lemmas.List.Sorted.{IsPermutation-sym, Contains-permutation}
use Rattle.std.specs.List.{Contains}
use Rattle.std.specs.List.Sorted.{IsNonDecreasingBy, IsPartitionPoint, IsPermutation}
use Rattle.ev_graph.specs.Places.{StandsIn}
use Rattle.ev_graph.specs.Cycle.{Chain}
use Rattle.topo.specs.declared.edge.Edge.{Edge}
use Rattle.topo.specs.Order.{Leads}
use Rattle.axiom_check.specs.declared.lanes.Slot.{Slot}
use Rattle.axiom_check.specs.Gains.{Gains, Below}
use Rattle.axiom_check.proofs.GainsLemmas.{gains_none, gains_push, gains_then}
use Rattle.axiom_check.specs.Lanes.{lane_of, InLanes, Crosses, IsRising, IsFirstAt, IsRung, IsEntry, AreBelow, AreOfEvents, AreInner, IsGraphOf}

-- a place below the length has an element
pub element : {X : Type 0} (xs : List X) (i : ℕ) → i < length xs → (x : X) × (slice_get xs i ≡ Some x)
element [] i less = absurd (omega arith)
element (x ∷ xs) zero less = (x, refl)
element (x ∷ xs) (suc i) less = element xs i (omega arith)

-- an element's place is below the length
pub place_below : {X : Type 0} (xs : List X) (i : ℕ) (x : X) → slice_get xs i ≡ Some x → i < length xs
place_below [] i x here = absurd cc
place_below (y ∷ xs) zero x here = omega arith
place_below (y ∷ xs) (suc i) x here = let rest = place_below xs i x here in omega arith

-- a key between two of one lane is of that lane
between : (low key high : ℕ) → low ≤ key → key ≤ high → lane_of low ≡ lane_of high → lane_of low ≡ lane_of key
between low key high above below same = omega arith

-- what is known of the edges
pub record IsLinked (events : ℕ) (direct : List Edge) (sources targets : List Slot) (edges : List Edge) : Type 0 where
  pub direct_below : AreBelow events direct
  pub sources_below : AreOfEvents events sources
  pub targets_below : AreOfEvents events targets
  pub rising : IsRising targets
  pub told : (e : Edge) → StandsIn edges e
      ↔ ((StandsIn direct e ⊎ Below targets (IsRung events targets) (length targets) e) ⊎ Below sources (IsEntry events targets) (length sources) e)

-- the targets from a place on, along its lane
record Front (targets : List Slot) (place b : ℕ) : Type 0 where
  first : Slot
  here : slice_get targets place ≡ Some first
  later : ℕ
  target : Slot
  there : slice_get targets later ≡ Some target
  order : place ≤ later
  same : lane_of first.key ≡ lane_of target.key
  event : target.event ≡ b

-- a way from an inner node through inner nodes to an event ends at a target behind it
front : (events : ℕ) (direct : List Edge) (sources targets : List Slot) (edges : List Edge) → IsLinked events direct sources targets edges
    → (place a : ℕ) (via : List ℕ) (b : ℕ) → a ≡ events + place → b < events → AreInner events via → Chain (Leads edges) a via b → Front targets place b
front events direct sources targets edges linked place a [] b is less inner way = elim ((linked.told _).0 way) [
  | inl told ↦ elim told [
    | inl direct_there ↦ absurd (let below = (linked.direct_below _ direct_there).0 in omega arith)
    | inr rung ↦ (let (j, slot, before, here, (from, to)) = rung in
        let same : j ≡ place = omega arith in
        let At : ℕ → Type 0 = λ k. slice_get targets k ≡ Some slot in
        let moved = subst At same here in
        elim to [
          | inl event ↦ record { first = slot; here = moved; later = place; target = slot; there = moved; order = omega arith; same = refl; event = sym event }
          | inr next ↦ absurd (let is_next = next.0 in omega arith)
        ])
  ]
  | inr entry ↦ absurd (let (i, source, before, here, (from, to)) = entry in let below = linked.sources_below source (i, here) in omega arith)
]
front events direct sources targets edges linked place a (v ∷ via) b is less inner (lead, way) = elim ((linked.told _).0 lead) [
  | inl told ↦ elim told [
    | inl direct_there ↦ absurd (let below = (linked.direct_below _ direct_there).0 in omega arith)
    | inr rung ↦ (let (j, slot, before, here, (from, to)) = rung in
        let same : j ≡ place = omega arith in
        let At : ℕ → Type 0 = λ k. slice_get targets k ≡ Some slot in
        let moved = subst At same here in
        elim to [
          | inl event ↦ absurd (let below = linked.targets_below slot (j, here) in let above = inner.0 in omega arith)
          | inr next ↦ (let (is_next, (slot_next, there, lane)) = next in
              let rest = front events direct sources targets edges linked (place + 1) v via b (omega arith) less inner.1 way in
              let same_next : place + 1 ≡ j + 1 = omega arith in
              let rest_here = rest.here in
              let moved_rest = subst (λ (k : ℕ). slice_get targets k ≡ Some rest.first) same_next rest_here in
              let first_is : slot_next ≡ rest.first = cc in
              let lanes = rest.same in
              let key_is = ap {B = ℕ} (λ (s : Slot). lane_of s.key) first_is in
              let order = rest.order in
              record { first = slot; here = moved; later = rest.later; target = rest.target; there = rest.there; order = omega arith; same = cc; event = rest.event })
        ])
  ]
  | inr entry ↦ absurd (let (i, source, before, here, (from, to)) = entry in let below = linked.sources_below source (i, here) in omega arith)
]

sound : (events : ℕ) (direct : List Edge) (sources targets : List Slot) (edges : List Edge) → IsLinked events direct sources targets edges
    → (a b : ℕ) (via : List ℕ) → a < events → b < events → AreInner events via → Chain (Leads edges) a via b → Crosses direct sources targets a b
sound events direct sources targets edges linked a b [] in_a in_b inner way = elim ((linked.told _).0 way) [
  | inl told ↦ elim told [
    | inl direct_there ↦ inl direct_there
    | inr rung ↦ absurd (let (j, slot, before, here, (from, to)) = rung in omega arith)
  ]
  | inr entry ↦ absurd (let (i, source, before, here, (from, (place, target, to, there, first, lane))) = entry in omega arith)
]
sound events direct sources targets edges linked a b (v ∷ via) in_a in_b inner (lead, way) = elim ((linked.told _).0 lead) [
  | inl told ↦ elim told [
    | inl direct_there ↦ absurd (let below = (linked.direct_below _ direct_there).1 in let above = inner.0 in omega arith)
    | inr rung ↦ absurd (let (j, slot, before, here, (from, to)) = rung in omega arith)
  ]
  | inr entry ↦ (let (i, source, before, here, (from, (place, target, to, there, first, lane))) = entry in
      let behind = front events direct sources targets edges linked place v via b to in_b inner.1 way in
      let found_here = behind.here in
      let is : target ≡ behind.first = cc in
      let key_is = ap {B = ℕ} (λ (s : Slot). lane_of s.key) is in
      let lanes = behind.same in
      let order = behind.order in
      inr (record {
        source = source;
        target = behind.target;
        source_there = (i, here);
        target_there = (behind.later, behind.there);
        first = sym from;
        second = behind.event;
        same = cc;
        order = first.behind behind.later behind.target order behind.there;
      }))
]

rises : (events : ℕ) (direct : List Edge) (sources targets : List Slot) (edges : List Edge) → IsLinked events direct sources targets edges
    → (e : Edge) → StandsIn edges e → events ≤ e.from → events ≤ e.to → e.from < e.to
rises events direct sources targets edges linked e there from_inner to_inner = elim ((linked.told e).0 there) [
  | inl told ↦ elim told [
    | inl direct_there ↦ absurd (let below = (linked.direct_below e direct_there).0 in omega arith)
    | inr rung ↦ (let (j, slot, before, here, (from, to)) = rung in elim to [
      | inl event ↦ absurd (let below = linked.targets_below slot (j, here) in omega arith)
      | inr next ↦ (let is_next = next.0 in omega arith)
    ])
  ]
  | inr entry ↦ absurd (let (i, source, before, here, (from, to)) = entry in let below = linked.sources_below source (i, here) in omega arith)
]

ends : (events : ℕ) (direct : List Edge) (sources targets : List Slot) (edges : List Edge) → IsLinked events direct sources targets edges
    → AreBelow (events + length targets) edges
ends events direct sources targets edges linked e there = elim ((linked.told e).0 there) [
  | inl told ↦ elim told [
    | inl direct_there ↦ (let below = linked.direct_below e direct_there in let from = below.0 in let to = below.1 in (omega arith, omega arith))
    | inr rung ↦ (let (j, slot, before, here, (from, to)) = rung in
        let to_below : e.to < events + length targets = elim to [
          | inl event ↦ (let below = linked.targets_below slot (j, here) in omega arith)
          | inr next ↦ (let (is_next, (slot_next, next_there, lane)) = next in let place = place_below targets (j + 1) slot_next next_there in omega arith)
        ] in
        (omega arith, to_below))
  ]
  | inr entry ↦ (let (i, source, before, here, (from, (place, target, to, target_there, first, lane))) = entry in
      let below = linked.sources_below source (i, here) in
      let place_of = place_below targets place target target_there in
      (omega arith, omega arith))
]

-- up the lane, from an inner node to a target behind it
climb : (events : ℕ) (direct : List Edge) (sources targets : List Slot) (edges : List Edge) → IsLinked events direct sources targets edges
    → (steps place : ℕ) (first target : Slot) → slice_get targets place ≡ Some first → slice_get targets (place + steps) ≡ Some target
    → lane_of first.key ≡ lane_of target.key → (via : List ℕ) × Chain (Leads edges) (events + place) via target.event
climb events direct sources targets edges linked zero place first target here there lane =
    let below = place_below targets place first here in
    let same : place + zero ≡ place = omega arith in
    let moved = subst (λ (k : ℕ). slice_get targets k ≡ Some target) same there in
    let is : first ≡ target = cc in
    let event = ap {B = ℕ} (λ (s : Slot). s.event) is in
    ([], (linked.told _).1 (inl (inr (place, first, below, here, (refl, inl (sym event))))))
climb events direct sources targets edges linked (suc steps) place first target here there lane =
    let below = place_below targets (place + suc steps) target there in
    let next = element targets (place + 1) (omega arith) in
    let low = linked.rising place (place + 1) first next.0 (omega arith) here next.1 in
    let high = linked.rising (place + 1) (place + suc steps) next.0 target (omega arith) next.1 there in
    let lane_next : lane_of first.key ≡ lane_of next.0.key = between first.key next.0.key target.key low high lane in
    let same : place + suc steps ≡ (place + 1) + steps = omega arith in
    let moved = subst (λ (k : ℕ). slice_get targets k ≡ Some target) same there in
    let place_of = place_below targets place first here in
    let lane_rest : lane_of next.0.key ≡ lane_of target.key = cc in
    let rest = climb events direct sources targets edges linked steps (place + 1) next.0 target next.1 moved lane_rest in
    let edge = (linked.told (record { from = events + place; to = events + (place + 1) })).1 (inl (inr (place, first, place_of, here, (refl, inr (omega arith, (next.0, next.1, lane_next)))))) in
    ((events + (place + 1)) ∷ rest.0, (edge, rest.1))

complete : (events : ℕ) (direct : List Edge) (sources targets : List Slot) (edges : List Edge) → IsLinked events direct sources targets edges
    → ((key : ℕ) → (place : ℕ) × IsFirstAt targets key place)
    → (a b : ℕ) → Crosses direct sources targets a b → (via : List ℕ) × Chain (Leads edges) a via b
complete events direct sources targets edges linked find a b (inl there) = ([], (linked.told _).1 (inl (inl there)))
complete events direct sources targets edges linked find a b (inr crossing) =
    let (at, there) = crossing.target_there in
    let (i, here) = crossing.source_there in
    let (place, first) = find crossing.source.key in
    let order = crossing.order in
    let no_later : place ≤ at = elim (cases_lt at place) [
      | inl less ↦ absurd (let low = first.before at crossing.target less there in omega arith)
      | inr le ↦ le
    ] in
    let at_below = place_below targets at crossing.target there in
    let i_below = place_below sources i crossing.source here in
    let next = element targets place (omega arith) in
    let low = first.behind place next.0 (omega arith) next.1 in
    let high = linked.rising place at next.0 crossing.target no_later next.1 there in
    let lane = between crossing.source.key next.0.key crossing.target.key low high crossing.same in
    let all_lanes = crossing.same in
    let lane_rest : lane_of next.0.key ≡ lane_of crossing.target.key = cc in
    let same : at ≡ place + (at - place) = omega arith in
    let moved = subst (λ (k : ℕ). slice_get targets k ≡ Some crossing.target) same there in
    let rest = climb events direct sources targets edges linked (at - place) place next.0 crossing.target next.1 moved lane_rest in
    let edge = (linked.told (record { from = crossing.source.event; to = events + place })).1
    (inr (i, crossing.source, i_below, here, (refl, (place, next.0, refl, next.1, first, lane)))) in
    let Ends : ℕ → ℕ → Type 0 = λ from to. (via : List ℕ) × Chain (Leads edges) from via to in
    subst (λ (from : ℕ). Ends from b) crossing.first (subst (λ (to : ℕ). Ends crossing.source.event to) crossing.second ((events + place) ∷ rest.0, (edge, rest.1)))

-- the first place is there for every key
find_first : (targets : List Slot) → IsRising targets → (key : ℕ) → (place : ℕ) × IsFirstAt targets key place
find_first [] rising key = (0, record { before = λ i s less here. absurd cc; behind = λ i s le here. absurd cc })
find_first (t ∷ ts) rising key = elim (cases_lt t.key key) [
  | inl less ↦ (let (place, first) = find_first ts (λ i j s u le here there. rising (suc i) (suc j) s u (omega arith) here there) key in
      (suc place, record { before = before place first less; behind = behind place first }))
  | inr le ↦ (0, record { before = λ i s none here. absurd (omega arith); behind = λ i s from here. (let low = rising 0 i t s (omega arith) refl here in omega arith) })
] where
  before : (place : ℕ) → IsFirstAt ts key place → t.key < key → (i : ℕ) (s : Slot) → i < suc place → slice_get (t ∷ ts) i ≡ Some s → s.key < key
  before place first less zero s below here = let is : t ≡ s = cc in subst (λ (u : Slot). u.key < key) is less
  before place first less (suc i) s below here = first.before i s (omega arith) here

  behind : (place : ℕ) → IsFirstAt ts key place → (i : ℕ) (s : Slot) → suc place ≤ i → slice_get (t ∷ ts) i ≡ Some s → key ≤ s.key
  behind place first zero s below here = absurd (omega arith)
  behind place first (suc i) s below here = first.behind i s (omega arith) here

-- the ways of the graph are the pairs of the lanes
pub is_graph : (events : ℕ) (direct : List Edge) (sources targets : List Slot) (edges : List Edge) → IsLinked events direct sources targets edges
    → IsGraphOf events (events + length targets) edges (Crosses direct sources targets)
is_graph events direct sources targets edges linked = record {
  ends = ends events direct sources targets edges linked;
  rises = rises events direct sources targets edges linked;
  sound = sound events direct sources targets edges linked;
  complete = complete events direct sources targets edges linked (find_first targets linked.rising);
}

pub edge_is : (e : Edge) (a b : ℕ) → e.from ≡ a → e.to ≡ b → e ≡ record { from = a; to = b }
edge_is e a b from to =
    let Is : ℕ → ℕ → Type 0 = λ f t. ◌≡◌ {A = Edge} e (record { from = f; to = t }) in
    subst (λ (f : ℕ). Is f b) from (subst (λ (t : ℕ). Is e.from t) to refl)

-- a rung with an edge to the next node of the lane
pub rung_both : (events : ℕ) (targets : List Slot) (place : ℕ) (target next : Slot) (old mid new : List Edge)
    → slice_get targets (place + 1) ≡ Some next → lane_of target.key ≡ lane_of next.key
    → mid ≡ old ++ record { from = events + place; to = target.event } ∷ [] → new ≡ mid ++ record { from = events + place; to = events + place + 1 } ∷ []
    → Gains (IsRung events targets place target) old new
rung_both events targets place target next old mid new there lane first second =
    let IsFirst : Edge → Type 0 = λ e. e ≡ record { from = events + place; to = target.event } in
    let IsSecond : Edge → Type 0 = λ e. e ≡ record { from = events + place; to = events + place + 1 } in
    gains_then IsFirst IsSecond (IsRung events targets place target) old mid new
    (gains_push IsFirst old mid _ first (λ e. ((λ is. is), (λ is. is))))
    (gains_push IsSecond mid new _ second (λ e. ((λ is. is), (λ is. is))))
    (λ e (from, to). elim to [ inl event ↦ inl (edge_is e _ _ from event) | inr more ↦ inr (edge_is e _ _ from more.0) ])
    (λ e is. (ap {B = ℕ} (λ (d : Edge). d.from) is, inl (ap {B = ℕ} (λ (d : Edge). d.to) is)))
    (λ e is. (ap {B = ℕ} (λ (d : Edge). d.from) is, inr (ap {B = ℕ} (λ (d : Edge). d.to) is, (next, there, lane))))

-- a rung at the end of its lane
pub rung_alone : (events : ℕ) (targets : List Slot) (place : ℕ) (target : Slot) (old new : List Edge)
    → (((next : Slot) × (slice_get targets (place + 1) ≡ Some next) × (lane_of target.key ≡ lane_of next.key)) → ⊥)
    → new ≡ old ++ record { from = events + place; to = target.event } ∷ []
    → Gains (IsRung events targets place target) old new
rung_alone events targets place target old new none is =
    gains_push (IsRung events targets place target) old new _ is (λ e. (
      (λ (from, to). elim to [ inl event ↦ edge_is e _ _ from event | inr more ↦ absurd (none more.1) ]),
      (λ same. (ap {B = ℕ} (λ (d : Edge). d.from) same, inl (ap {B = ℕ} (λ (d : Edge). d.to) same))),
    ))

-- the first place is one
same_first : (targets : List Slot) (key i j : ℕ) (s : Slot) → IsFirstAt targets key i → IsFirstAt targets key j → slice_get targets j ≡ Some s → i ≤ j
same_first targets key i j s first other here = elim (cases_lt j i) [
  | inl less ↦ absurd (let low = first.before j s less here in let high = other.behind j s (omega arith) here in omega arith)
  | inr le ↦ le
]

-- a source with its entry
pub entry_there : (events : ℕ) (targets : List Slot) (i : ℕ) (source : Slot) (place : ℕ) (old new : List Edge)
    → IsFirstAt targets source.key place → ((target : Slot) × (slice_get targets place ≡ Some target) × (lane_of source.key ≡ lane_of target.key))
    → new ≡ old ++ record { from = source.event; to = events + place } ∷ []
    → Gains (IsEntry events targets i source) old new
entry_there events targets i source place old new first (target, there, lane) is =
    gains_push (IsEntry events targets i source) old new _ is (λ e. (
      (λ (from, (other, slot, to, here, also, same)).
          let up = same_first targets source.key place other slot first also here in
          let down = same_first targets source.key other place target also first there in
          edge_is e _ _ from (omega arith)),
      (λ same. (ap {B = ℕ} (λ (d : Edge). d.from) same, (place, target, ap {B = ℕ} (λ (d : Edge). d.to) same, there, first, lane))),
    ))

-- a source that has no target from its place on
pub entry_none : (events : ℕ) (targets : List Slot) (i : ℕ) (source : Slot) (place : ℕ) (edges : List Edge)
    → IsFirstAt targets source.key place → (((target : Slot) × (slice_get targets place ≡ Some target) × (lane_of source.key ≡ lane_of target.key)) → ⊥)
    → Gains (IsEntry events targets i source) edges edges
entry_none events targets i source place edges first none =
    gains_none (IsEntry events targets i source) edges (λ e (from, (other, slot, to, here, also, same)).
    let up = same_first targets source.key place other slot first also here in
    let less = place_below targets other slot here in
    let at = element targets place (omega arith) in
    let down = same_first targets source.key other place at.0 also first at.1 in
    let is : other ≡ place = omega arith in
    none (slot, subst (λ (k : ℕ). slice_get targets k ≡ Some slot) is here, same))

-- what the tests of a search say, by places
pub partition_first : (slots : List Slot) (key place : ℕ) → IsPartitionPoint (λ (y : Slot). ltb y.key key ≡ true) (λ (y : Slot). ltb y.key key ≡ false) slots place
    → IsFirstAt slots key place
partition_first slots key place (low, high) = record {
  before = λ i s less here. (let test = low i s (omega arith) less in let is = get_or_from_slice_get slots i s s here in ltb-true _ _ (subst (λ (y : Slot). ltb y.key key ≡ true) is test));
  behind = λ i s from here. (let below = place_below slots i s here in let test = high i s from below in let is = get_or_from_slice_get slots i s s here in
      ltb-false _ _ (subst (λ (y : Slot). ltb y.key key ≡ false) is test));
}

-- rising by places is not falling by numbers
pub is_non_decreasing : (slots : List Slot) → IsRising slots → IsNonDecreasingBy (λ (s : Slot). s.key) slots
is_non_decreasing slots rising i j d le less =
    let low = element slots i (omega arith) in
    let high = element slots j less in
    let order = rising i j low.0 high.0 le low.1 high.1 in
    let low_is = get_or_from_slice_get slots i low.0 d low.1 in
    let high_is = get_or_from_slice_get slots j high.0 d high.1 in
    subst (λ (s : Slot). s.key ≤ (get_or slots j d).key) (sym low_is) (subst (λ (s : Slot). low.0.key ≤ s.key) (sym high_is) order)

pub is_rising : (slots : List Slot) → IsNonDecreasingBy (λ (s : Slot). s.key) slots → IsRising slots
is_rising slots up i j s t le here there =
    let less = place_below slots j t there in
    let order = up i j s le less in
    let low_is = get_or_from_slice_get slots i s s here in
    let high_is = get_or_from_slice_get slots j t s there in
    subst (λ (u : Slot). u.key ≤ t.key) low_is (subst (λ (u : Slot). (get_or slots i s).key ≤ u.key) high_is order)

stands : {X : Type 0} (xs : List X) (x : X) → StandsIn xs x ↔ Contains xs x
stands xs x = (
  (λ (i, here). (i, place_below xs i x here, get_or_from_slice_get xs i x x here)),
  (λ (i, less, is). let there = element xs i less in let same = get_or_from_slice_get xs i there.0 x there.1 in (i, (let e : there.0 ≡ x = cc in subst (λ y. slice_get xs i ≡ Some y) e there.1))),
)

-- a permutation has the same elements
pub same_elements : {X : Type 0} (xs ys : List X) → IsPermutation xs ys → (x : X) → StandsIn ys x ↔ StandsIn xs x
same_elements xs ys permuted x = (
  (λ there. (stands xs x).1 (Contains-permutation ys xs x (IsPermutation-sym xs ys permuted) ((stands ys x).0 there))),
  (λ there. (stands ys x).1 (Contains-permutation xs ys x permuted ((stands xs x).0 there))),
)

-- the graph of lanes whose targets are sorted
pub graph_of : (events nodes : ℕ) (direct mid edges : List Edge) (sources targets sorted first second from : List Slot)
    → AreBelow events direct → AreOfEvents events sources → AreOfEvents events targets → IsRising sorted
    → ((s : Slot) → StandsIn sorted s ↔ StandsIn targets s) → nodes ≡ events + length sorted → first ≡ sorted → second ≡ sorted → from ≡ sources
    → Gains (Below first (IsRung events first) (length first)) direct mid → Gains (Below from (IsEntry events second) (length from)) mid edges
    → IsGraphOf events nodes edges (Crosses direct sources targets)
graph_of events nodes direct mid edges sources targets sorted first second from direct_below sources_below targets_below rising same count is_first is_second is_from rungs entries =
    let Rungs : List Slot → Type 0 = λ l. Gains (Below l (IsRung events l) (length l)) direct mid in
    let Entries : List Slot → List Slot → Type 0 = λ l f. Gains (Below f (IsEntry events l) (length f)) mid edges in
    let rungs_here = subst Rungs is_first rungs in
    let entries_here = subst (λ l. Entries l sources) is_second (subst (Entries second) is_from entries) in
    let graph = is_graph events direct sources sorted edges (record {
      direct_below = direct_below;
      sources_below = sources_below;
      targets_below = λ s there. targets_below s ((same s).0 there);
      rising = rising;
      told = λ e. (
        (λ there. elim ((entries_here.told e).0 there) [ inl before ↦ inl ((rungs_here.told e).0 before) | inr entry ↦ inr entry ]),
        (λ either. elim either [ inl before ↦ (entries_here.told e).1 (inl ((rungs_here.told e).1 before)) | inr entry ↦ (entries_here.told e).1 (inr entry) ]),
      );
    }) in
    rw count (record {
      ends = graph.ends;
      rises = graph.rises;
      sound = λ a b via in_a in_b inner way. elim (graph.sound a b via in_a in_b inner way) [
        | inl told ↦ inl told
        | inr lanes ↦ inr (moved sorted targets (λ s. (same s).0) a b lanes)
      ];
      complete = λ a b pair. graph.complete a b (elim pair [ inl told ↦ inl told | inr lanes ↦ inr (moved targets sorted (λ s. (same s).1) a b lanes) ]);
    })
  where
    moved : (xs ys : List Slot) → ((s : Slot) → StandsIn xs s → StandsIn ys s) → (a b : ℕ) → InLanes sources xs a b → InLanes sources ys a b
    moved xs ys to a b lanes = record {
      source = lanes.source;
      target = lanes.target;
      source_there = lanes.source_there;
      target_there = to lanes.target lanes.target_there;
      first = lanes.first;
      second = lanes.second;
      same = lanes.same;
      order = lanes.order;
    }
