-- Each pair of the axiom External of an execution is one of its lanes: what the doors admit, and reads from other threads; and all pairs.
use Rattle.std.proofs.Common.{◌≡◌, ◌<◌, ◌≤◌, ◌+◌, ℕ, Bool, List, [], length, Option, Some, MatchOption, inl, inr, refl, sym, ap, subst, ◌∙◌, arith}
use Rattle.std.specs.List.{slice_get}
use Rattle.ev_graph.specs.declared.events.Access.{Access}
use Rattle.ev_graph.specs.declared.events.EventId.{EventId}
use Rattle.ev_graph.specs.declared.events.Item.{Item}
use Rattle.ev_graph.specs.declared.execution.Execution.{Execution}
use Rattle.ev_graph.specs.declared.execution.Source.TheVariants.{From}
use Rattle.ev_graph.specs.declared.execution.ThreadRun.{ThreadRun}
use Rattle.ev_graph.specs.Events.{accesses, event, items_of, LockedPairAt}
use Rattle.ev_graph.specs.Pairs.{External, Rf}
use Rattle.ev_graph.specs.Places.{StandsIn}
use Rattle.ev_graph.specs.WellFormed.{all_accesses}
use Rattle.ev_graph.proofs.Threads.{items_of_some}
use Rattle.order_models.specs.declared.doors.Door.{Door}
use Rattle.order_models.specs.declared.doors.Opening.TheVariants as opening
use Rattle.order_models.specs.declared.edge.EdgeKind.{EdgeKind}
use Rattle.order_models.specs.declared.edge.EdgeKind.TheVariants as edge
use Rattle.order_models.specs.Consistent.{ExternalPair, Local, SomeKind}
use Rattle.order_models.specs.Doors.{Admits, AreDoorsOf, IsOfSide}
use Rattle.order_models.specs.Orders.{Order, HasOwnKinds}
use Rattle.topo.specs.declared.edge.Edge.{Edge}
use Rattle.axiom_check.specs.declared.lanes.Slot.{Slot}
use Rattle.axiom_check.specs.Lanes.{AreBelow, AreOfEvents, Crosses, HasRound, IsOrderOf}
use Rattle.axiom_check.specs.Numbers.{AreNumbered, Told}
use Rattle.axiom_check.specs.Bytes.{key}
use Rattle.axiom_check.specs.External.{IsJudgeable, IsExternalSource, IsExternalTarget, IsExternalEdge}
use Rattle.axiom_check.specs.Gains.{Gains}
use Rattle.axiom_check.specs.Gates.{IsAt, IsWide}
use Rattle.axiom_check.proofs.GatesLemmas.{at_access}
use Rattle.axiom_check.proofs.LanesLemmas.{element, place_below}
use Rattle.axiom_check.proofs.LastFences.{reach}
use Rattle.axiom_check.proofs.Judged.{thread_below}
use Rattle.axiom_check.proofs.SlotForms.{source_form, target_form}
use Rattle.axiom_check.proofs.ExternalPairs.{IsLaned, crosses_pair, index_small, place_small}
use Rattle.axiom_check.proofs.Ordering.{answered_as}
use Rattle.axiom_check.proofs.PairsBack.{same_keys, own_place, co_lanes, fr_lanes}

-- the thread of an access, and the access among the thread's
record Own (threads : List ThreadRun) (a : Access) : Type 0 where
  thread : ThreadRun
  less : a.id.thread < length threads
  here : slice_get threads a.id.thread ≡ Some thread
  items : items_of threads a.id.thread ≡ thread.items
  at : slice_get (accesses thread.items) a.id.index ≡ Some a

own : (x : Execution) (all : List Access) (firsts : List ℕ) (order : Order) (doors : List Door) (within : Bool) (sources targets : List Slot) (direct : List Edge)
    → IsLaned x all firsts order doors within sources targets direct → (n : ℕ) (a : Access) → slice_get all n ≡ Some a → Own x.threads a
own x all firsts order doors within sources targets direct known n a here =
    let at = own_place x all firsts order doors within sources targets direct known n a here in
    let less = thread_below x.threads a.id.thread a.id.index a at in
    let (thread, there) = element x.threads a.id.thread less in
    let items = items_of_some x.threads a.id.thread thread there in
    record { thread = thread; less = less; here = there; items = items; at = subst (λ (l : List Item). slice_get (accesses l) a.id.index ≡ Some a) items at }

-- an access of a door's first side is among the sources
source_stands : (x : Execution) (all : List Access) (firsts : List ℕ) (order : Order) (doors : List Door) (within : Bool) (sources targets : List Slot) (direct : List Edge)
    → IsLaned x all firsts order doors within sources targets direct → (i : ℕ) (a : Access) → slice_get all i ≡ Some a → (k : ℕ) (door : Door) → slice_get doors k ≡ Some door → IsWide door.opening
    → IsOfSide door.from (items_of x.threads a.id.thread) a.id.index → StandsIn sources (record { key = key a.id.thread (16 + k) (a.id.index + 2); event = i })
source_stands x all firsts order doors within sources targets direct known i a here k door listed wide side =
    let o = own x all firsts order doors within sources targets direct known i a here in
    let moved = subst (λ (l : List Item). IsOfSide door.from l a.id.index) o.items side in
    let k_below = place_below doors k door listed in
    let m_below = place_below (accesses o.thread.items) a.id.index a o.at in
    (known.sources_told.told _).1 (inr (inr (
      a.id.thread,
      o.thread,
      o.less,
      o.here,
      (k, door, k_below, listed, (wide, (a.id.index, a, m_below, o.at, (moved, (i, a, record { here = here; named = refl }, refl))))),
    )))

-- an access of a door's second side is among the targets, at its place
target_stands : (x : Execution) (all : List Access) (firsts : List ℕ) (order : Order) (doors : List Door) (within : Bool) (sources targets : List Slot) (direct : List Edge)
    → IsLaned x all firsts order doors within sources targets direct → (i : ℕ) (a : Access) → slice_get all i ≡ Some a → (k : ℕ) (door : Door) → slice_get doors k ≡ Some door → IsWide door.opening
    → (place : ℕ) → IsOfSide door.to (items_of x.threads a.id.thread) a.id.index → IsAt door.opening (items_of x.threads a.id.thread) a.id.index place
    → StandsIn targets (record { key = key a.id.thread (16 + k) place; event = i })
target_stands x all firsts order doors within sources targets direct known i a here k door listed wide place side at_place =
    let o = own x all firsts order doors within sources targets direct known i a here in
    let moved = subst (λ (l : List Item). IsOfSide door.to l a.id.index) o.items side in
    let moved_place = subst (λ (l : List Item). IsAt door.opening l a.id.index place) o.items at_place in
    let k_below = place_below doors k door listed in
    let m_below = place_below (accesses o.thread.items) a.id.index a o.at in
    (known.targets_told.told _).1 (inr (inr (
      a.id.thread,
      o.thread,
      o.less,
      o.here,
      (k, door, k_below, listed, (wide, (a.id.index, a, m_below, o.at, (moved, (place, moved_place, (i, a, record { here = here; named = refl }, refl)))))),
    )))

-- what a door admits by sides and places is one of the lanes
wide_lanes : (x : Execution) (all : List Access) (firsts : List ℕ) (order : Order) (doors : List Door) (within : Bool) (sources targets : List Slot) (direct : List Edge)
    → IsLaned x all firsts order doors within sources targets direct → (i j : ℕ) (a b : Access) → slice_get all i ≡ Some a → slice_get all j ≡ Some b → a.id.thread ≡ b.id.thread
    → (k : ℕ) (door : Door) → slice_get doors k ≡ Some door → IsWide door.opening → Admits door (items_of x.threads a.id.thread) a.id.index b.id.index
    → (place : ℕ) → IsAt door.opening (items_of x.threads a.id.thread) b.id.index place → a.id.index + 2 ≤ place → Crosses direct sources targets i j
wide_lanes x all firsts order doors within sources targets direct known i j a b here there same k door listed wide admits place at reaches =
    let Side : ℕ → Type 0 = λ t. IsOfSide door.to (items_of x.threads t) b.id.index in
    let At : ℕ → Type 0 = λ t. IsAt door.opening (items_of x.threads t) b.id.index place in
    let index_a = index_small x all firsts known.judged known.same known.numbered i a here in
    let index_b = index_small x all firsts known.judged known.same known.numbered j b there in
    let small = place_small door.opening (items_of x.threads a.id.thread) b.id.index place at in
    let keys = same_keys a.id.thread b.id.thread (16 + k) (a.id.index + 2) place same (omega arith) (omega arith) reaches in
    inr (record {
      source = record { key = key a.id.thread (16 + k) (a.id.index + 2); event = i };
      target = record { key = key b.id.thread (16 + k) place; event = j };
      source_there = source_stands x all firsts order doors within sources targets direct known i a here k door listed wide admits.from;
      target_there = target_stands x all firsts order doors within sources targets direct known j b there k door listed wide place (subst Side same admits.to) (subst At same at);
      first = refl;
      second = refl;
      same = keys.0;
      order = keys.1;
    })

-- halves of an atomic instruction are told by themselves
halves_direct : (x : Execution) (all : List Access) (firsts : List ℕ) (order : Order) (doors : List Door) (within : Bool) (sources targets : List Slot) (direct : List Edge)
    → IsLaned x all firsts order doors within sources targets direct → (i j : ℕ) (a b : Access) → slice_get all i ≡ Some a → slice_get all j ≡ Some b → a.id.thread ≡ b.id.thread
    → (k : ℕ) (door : Door) → slice_get doors k ≡ Some door → door.opening ≡ opening.Pair → Admits door (items_of x.threads a.id.thread) a.id.index b.id.index
    → LockedPairAt (items_of x.threads a.id.thread) a.id.index b.id.index → Crosses direct sources targets i j
halves_direct x all firsts order doors within sources targets direct known i j a b here there same k door listed is_pair admits locked =
    let o = own x all firsts order doors within sources targets direct known i a here in
    let p = own x all firsts order doors within sources targets direct known j b there in
    let next : b.id.index ≡ a.id.index + 1 = locked.0 in
    let items : items_of x.threads b.id.thread ≡ o.thread.items = ap (λ (t : ℕ). items_of x.threads t) (sym same) ∙ o.items in
    let also : p.thread.items ≡ o.thread.items = sym p.items ∙ items in
    let At : List Item → ℕ → Type 0 = λ l n. slice_get (accesses l) n ≡ Some b in
    let b_at = subst (λ (n : ℕ). At o.thread.items n) next (subst (λ (l : List Item). At l b.id.index) also p.at) in
    let Both : List Item → ℕ → Type 0 = λ l n. IsOfSide door.from l a.id.index × IsOfSide door.to l n × LockedPairAt l a.id.index n in
    let (from, to, halves) = subst (λ (n : ℕ). Both o.thread.items n) next (subst (λ (l : List Item). Both l b.id.index) o.items (admits.from, admits.to, locked)) in
    let k_below = place_below doors k door listed in
    let m_below = place_below (accesses o.thread.items) a.id.index a o.at in
    inl ((known.direct_told.told (record { from = i; to = j })).1 (inr (inr (
      a.id.thread,
      o.thread,
      o.less,
      o.here,
      (
        k,
        door,
        k_below,
        listed,
        (is_pair, (a.id.index, a, m_below, o.at, (b, b_at, from, to, halves, record { from = a; to = b; from_is = record { here = here; named = refl }; to_is = record { here = there; named = refl } }))),
      ),
    ))))

-- what the order keeps within a thread is among the pairs
local_lanes : (x : Execution) (all : List Access) (firsts : List ℕ) (order : Order) (doors : List Door) (within : Bool) (sources targets : List Slot) (direct : List Edge)
    → IsLaned x all firsts order doors within sources targets direct → (i j : ℕ) (a b : Access) → slice_get all i ≡ Some a → slice_get all j ≡ Some b
    → (kind : EdgeKind) → Local order x.threads kind (event a) (event b) → Crosses direct sources targets i j
local_lanes x all firsts order doors within sources targets direct known i j a b here there kind local =
    let items = items_of x.threads a.id.thread in
    let same : a.id.thread ≡ b.id.thread = local.po.thread in
    let at_a = own_place x all firsts order doors within sources targets direct known i a here in
    let at_b = own_place x all firsts order doors within sources targets direct known j b there in
    let at_b_here = subst (λ (t : ℕ). slice_get (accesses (items_of x.threads t)) b.id.index ≡ Some b) (sym same) at_b in
    let is_a = (at_access (λ e. Unit {0}) items a.id.index a at_a).1 tt in
    let is_b = (at_access (λ e. Unit {0}) items b.id.index b at_b_here).1 tt in
    let (door, listed, kind_is, admits) = known.law.each kind items a.id.index b.id.index local.po.order is_a is_b local.holds in
    let (k, at) = listed in
    elim (reach door.opening items a.id.index b.id.index admits.order admits.opening) [
      | inl (wide, (place, at_place, reaches)) ↦ wide_lanes x all firsts order doors within sources targets direct known i j a b here there same k door at wide admits place at_place reaches
      | inr (is_pair, locked) ↦ halves_direct x all firsts order doors within sources targets direct known i j a b here there same k door at is_pair admits locked
    ]

-- a read from another thread is told by itself
rfe_direct : (x : Execution) (all : List Access) (firsts : List ℕ) (order : Order) (doors : List Door) (within : Bool) (sources targets : List Slot) (direct : List Edge)
    → IsLaned x all firsts order doors within sources targets direct → (i j : ℕ) (a b : Access) → slice_get all i ≡ Some a → slice_get all j ≡ Some b
    → External (event a) (event b) → Rf x.rf (event a) (event b) → Crosses direct sources targets i j
rfe_direct x all firsts order doors within sources targets direct known i j a b here there apart rf =
    let from = rf.source in
    let (e, listed) = from.listed in
    let below = place_below x.rf e from.entry listed in
    let k_below = place_below from.entry.bytes rf.k (From a.id) from.byte in
    let thread = ap {B = ℕ} (λ (v : EventId). v.thread) from.read in
    inl ((known.direct_told.told (record { from = i; to = j })).1 (inr (inl (
      e,
      from.entry,
      below,
      listed,
      (
        rf.k,
        From a.id,
        k_below,
        from.byte,
        (inr (λ same. apart (same ∙ thread)), record { from = a; to = b; from_is = record { here = here; named = refl }; to_is = record { here = there; named = sym from.read } }),
      ),
    ))))

pair_lanes : (x : Execution) (all : List Access) (firsts : List ℕ) (order : Order) (doors : List Door) (within : Bool) (sources targets : List Slot) (direct : List Edge)
    → IsLaned x all firsts order doors within sources targets direct → (i j : ℕ) (a b : Access) → slice_get all i ≡ Some a → slice_get all j ≡ Some b
    → (kind : EdgeKind) → ExternalPair order within x kind (event a) (event b) → Crosses direct sources targets i j
pair_lanes x all firsts order doors within sources targets direct known i j a b here there edge.Co (inside, same, co) = inr (co_lanes x all firsts order doors within sources targets direct known i j a b here there (inl inside) co)
pair_lanes x all firsts order doors within sources targets direct known i j a b here there edge.Fr (inside, same, fr) = inr (fr_lanes x all firsts order doors within sources targets direct known i j a b here there (inl inside) fr)
pair_lanes x all firsts order doors within sources targets direct known i j a b here there edge.Rfe (apart, rf) = rfe_direct x all firsts order doors within sources targets direct known i j a b here there apart rf
pair_lanes x all firsts order doors within sources targets direct known i j a b here there edge.Fre (apart, fr) = inr (fr_lanes x all firsts order doors within sources targets direct known i j a b here there (inr (λ same. apart (sym same))) fr)
pair_lanes x all firsts order doors within sources targets direct known i j a b here there edge.Coe (apart, co) = inr (co_lanes x all firsts order doors within sources targets direct known i j a b here there (inr (λ same. apart (sym same))) co)
pair_lanes x all firsts order doors within sources targets direct known i j a b here there _ local = local_lanes x all firsts order doors within sources targets direct known i j a b here there _ local

-- each pair of External is one of an execution's lanes
pub pair_crosses : (x : Execution) (all : List Access) (firsts : List ℕ) (order : Order) (doors : List Door) (within : Bool) (sources targets : List Slot) (direct : List Edge)
    → IsLaned x all firsts order doors within sources targets direct → (i j : ℕ) → Told all (SomeKind (ExternalPair order within x)) i j → Crosses direct sources targets i j
pair_crosses x all firsts order doors within sources targets direct known i j told =
    let (kind, pair) = told.pair in
    pair_lanes x all firsts order doors within sources targets direct known i j told.first told.second told.first_there told.second_there kind pair

-- the lanes are of the execution's events
pub sources_below : (x : Execution) (all : List Access) (firsts : List ℕ) (order : Order) (doors : List Door) (within : Bool) (sources targets : List Slot) (direct : List Edge)
    → IsLaned x all firsts order doors within sources targets direct → AreOfEvents (length all) sources
sources_below x all firsts order doors within sources targets direct known s there = elim (source_form x all within doors sources known.judged known.same known.sources_told s there) [
  | inl byte ↦ (let number = ap {B = ℕ} (λ (t : Slot). t.event) byte.is in let below = place_below all byte.number byte.access byte.here in omega arith)
  | inr gate ↦ (let number = ap {B = ℕ} (λ (t : Slot). t.event) gate.is in let below = place_below all gate.number gate.access gate.here in omega arith)
]

pub targets_below : (x : Execution) (all : List Access) (firsts : List ℕ) (order : Order) (doors : List Door) (within : Bool) (sources targets : List Slot) (direct : List Edge)
    → IsLaned x all firsts order doors within sources targets direct → AreOfEvents (length all) targets
targets_below x all firsts order doors within sources targets direct known s there = elim (target_form x all doors targets known.judged known.same known.targets_told s there) [
  | inl write ↦ (let number = ap {B = ℕ} (λ (t : Slot). t.event) write.is in let below = place_below all write.number write.access write.here in omega arith)
  | inr gate ↦ (let number = ap {B = ℕ} (λ (t : Slot). t.event) gate.is in let below = place_below all gate.number gate.access gate.here in omega arith)
]

pub direct_below : (x : Execution) (all : List Access) (firsts : List ℕ) (order : Order) (doors : List Door) (within : Bool) (sources targets : List Slot) (direct : List Edge)
    → IsLaned x all firsts order doors within sources targets direct → AreBelow (length all) direct
direct_below x all firsts order doors within sources targets direct known e there =
    let told = crosses_pair x all firsts order doors within sources targets direct known e.from e.to (inl there) in
    (place_below all e.from told.first told.first_there, place_below all e.to told.second told.second_there)

-- what is known of the lanes that are made for an execution
pub laned : (x : Execution) (all : List Access) (firsts : List ℕ) (order : Order) (doors : List Door) (within : Bool) (sources targets : List Slot) (direct : List Edge) (count : ℕ)
    → IsJudgeable x → all ≡ all_accesses x.threads → AreNumbered all firsts → length x.co < 4294967296 → AreDoorsOf order doors → length doors ≡ count → count ≤ 5 → HasOwnKinds order
    → Gains (IsExternalSource x all within doors) [] sources → Gains (IsExternalTarget x all doors) [] targets → Gains (IsExternalEdge x all doors) [] direct
    → IsLaned x all firsts order doors within sources targets direct
laned x all firsts order doors within sources targets direct count judged same numbered few law doors_are at_most own_kinds from to told = record {
  judged = judged;
  same = same;
  numbered = numbered;
  few = few;
  law = law;
  few_doors = omega arith;
  own = own_kinds;
  sources_told = from;
  targets_told = to;
  direct_told = told;
}

-- the lanes are of the execution's events, as many as are counted
pub lanes_below : (x : Execution) (all : List Access) (firsts : List ℕ) (order : Order) (doors : List Door) (within : Bool) (sources targets : List Slot) (direct : List Edge) (count : ℕ)
    → count ≡ length all → IsLaned x all firsts order doors within sources targets direct → AreBelow count direct × AreOfEvents count sources × AreOfEvents count targets
lanes_below x all firsts order doors within sources targets direct count same known = (
  subst (λ (n : ℕ). AreBelow n direct) (sym same) (direct_below x all firsts order doors within sources targets direct known),
  subst (λ (n : ℕ). AreOfEvents n sources) (sym same) (sources_below x all firsts order doors within sources targets direct known),
  subst (λ (n : ℕ). AreOfEvents n targets) (sym same) (targets_below x all firsts order doors within sources targets direct known),
)

-- what is found for the lanes is found for the pairs of External
pub found_pairs : {V : Type 0} (items : V → List ℕ) (x : Execution) (all : List Access) (firsts : List ℕ) (order : Order) (doors : List Door) (within : Bool) (sources targets : List Slot)
    (direct : List Edge) (count : ℕ) → count ≡ length all → IsLaned x all firsts order doors within sources targets direct → (found : Option V)
    → MatchOption found (HasRound (Crosses direct sources targets)) (λ v. IsOrderOf count (Crosses direct sources targets) (items v))
    → MatchOption found (HasRound (Told all (SomeKind (ExternalPair order within x)))) (λ v. IsOrderOf (length all) (Told all (SomeKind (ExternalPair order within x))) (items v))
found_pairs items x all firsts order doors within sources targets direct count same known found answer =
    let pairs = Told all (SomeKind (ExternalPair order within x)) in
    let lanes = Crosses direct sources targets in
    answered_as items (length all) lanes pairs
    (λ i j pair. crosses_pair x all firsts order doors within sources targets direct known i j pair)
    (λ i j pair. pair_crosses x all firsts order doors within sources targets direct known i j pair)
    found (subst (λ (n : ℕ). MatchOption found (HasRound lanes) (λ v. IsOrderOf n lanes (items v))) same answer)
