-- Each pair of the lanes of an execution is one of the axiom External.
use Rattle.std.proofs.Common.{◌≡◌, ◌≢◌, ◌<◌, ◌≤◌, ◌+◌, ℕ, Bool, true, false, List, [], length, Some, ◌⊎◌, inl, inr, refl, sym, ap, subst, ◌∙◌, arith}
use Rattle.std.specs.List.{slice_get}
use Rattle.std.proofs.lemmas.Bool.{cases_lt}
use Rattle.ev_graph.specs.declared.events.Access.{Access}
use Rattle.ev_graph.specs.declared.events.EventId.{EventId}
use Rattle.ev_graph.specs.declared.events.Item.{Item}
use Rattle.ev_graph.specs.declared.execution.Execution.{Execution}
use Rattle.ev_graph.specs.declared.execution.Source.TheVariants.{Start, From}
use Rattle.ev_graph.specs.Events.{Event, event, items_of}
use Rattle.ev_graph.specs.Pairs.{Co, Fr}
use Rattle.ev_graph.specs.WellFormed.{all_accesses}
use Rattle.order_models.specs.declared.doors.Door.{Door}
use Rattle.order_models.specs.declared.doors.Opening.{Opening}
use Rattle.order_models.specs.declared.doors.Opening.TheVariants as opening
use Rattle.order_models.specs.declared.edge.EdgeKind.{EdgeKind}
use Rattle.order_models.specs.declared.edge.EdgeKind.TheVariants as edge
use Rattle.order_models.specs.Consistent.{ExternalPair, Local, SomeKind}
use Rattle.order_models.specs.Doors.{Admits, AreDoorsOf, IsKept, IsOfSide, Opens}
use Rattle.order_models.specs.Orders.{Order, HasOwnKinds}
use Rattle.order_models.proofs.DoorLemmas.{all_at}
use Rattle.topo.specs.declared.edge.Edge.{Edge}
use Rattle.axiom_check.specs.declared.lanes.Slot.{Slot}
use Rattle.axiom_check.specs.Gains.{Gains}
use Rattle.axiom_check.specs.Lanes.{Crosses, InLanes, lane_of}
use Rattle.axiom_check.specs.Numbers.{AreNumbered, Told}
use Rattle.axiom_check.specs.Bytes.{key}
use Rattle.axiom_check.specs.Gates.{IsAt}
use Rattle.axiom_check.specs.External.{IsJudgeable, IsExternalSource, IsExternalTarget, IsExternalEdge}
use Rattle.axiom_check.proofs.GatesLemmas.{fence_between}
use Rattle.axiom_check.proofs.LanesLemmas.{place_below}
use Rattle.axiom_check.proofs.BytePairs.{same_lane, same_order}
use Rattle.axiom_check.proofs.SlotForms.{ByteSource, ByteTarget, GateSource, GateTarget, source_form, target_form, placed}

-- what is known of an execution and of its lanes
pub record IsLaned (x : Execution) (all : List Access) (firsts : List ℕ) (order : Order) (doors : List Door) (within : Bool) (sources targets : List Slot) (direct : List Edge) : Type 0 where
  pub judged : IsJudgeable x
  pub same : all ≡ all_accesses x.threads
  pub numbered : AreNumbered all firsts
  pub few : length x.co < 4294967296
  pub law : AreDoorsOf order doors
  pub few_doors : length doors ≤ 5
  pub own : HasOwnKinds order
  pub sources_told : Gains (IsExternalSource x all within doors) [] sources
  pub targets_told : Gains (IsExternalTarget x all doors) [] targets
  pub direct_told : Gains (IsExternalEdge x all doors) [] direct

-- what the order keeps within a thread is a pair of External
local_pair : (order : Order) (within : Bool) (x : Execution) → HasOwnKinds order → (kind : EdgeKind) (a b : Event) → Local order x.threads kind a b → ExternalPair order within x kind a b
local_pair order within x own edge.Co a b local = absurd (own.no_co _ _ _ local.holds)
local_pair order within x own edge.Fr a b local = absurd (own.no_fr _ _ _ local.holds)
local_pair order within x own edge.Rfe a b local = absurd (own.no_rfe _ _ _ local.holds)
local_pair order within x own edge.Fre a b local = absurd (own.no_fre _ _ _ local.holds)
local_pair order within x own edge.Coe a b local = absurd (own.no_coe _ _ _ local.holds)
local_pair order within x own _ a b local = local

-- coherence and from-reads between threads, or within one where they belong to External
byte_pair : (order : Order) (within : Bool) (x : Execution) (a b : Event) → (within ≡ true) ⊎ (b.id.thread ≢ a.id.thread) → Co x.co a b ⊎ Fr x.rf x.co a b → SomeKind (ExternalPair order within x) a b
byte_pair order within x a b (inr apart) (inl co) = (edge.Coe, ((λ same. apart (sym same)), co))
byte_pair order within x a b (inr apart) (inr fr) = (edge.Fre, ((λ same. apart (sym same)), fr))
byte_pair order within x a b (inl inside) pair = elim (cases_lt a.id.thread b.id.thread) [
  | inl less ↦ byte_pair_apart (λ same. omega arith) pair
  | inr le ↦ elim (cases_lt b.id.thread a.id.thread) [
    | inl more ↦ byte_pair_apart (λ same. omega arith) pair
    | inr equal ↦ byte_pair_within (omega arith) pair
  ]
] where
  byte_pair_apart : (a.id.thread ≡ b.id.thread → ⊥) → Co x.co a b ⊎ Fr x.rf x.co a b → SomeKind (ExternalPair order within x) a b
  byte_pair_apart apart (inl co) = (edge.Coe, (apart, co))
  byte_pair_apart apart (inr fr) = (edge.Fre, (apart, fr))

  byte_pair_within : a.id.thread ≡ b.id.thread → Co x.co a b ⊎ Fr x.rf x.co a b → SomeKind (ExternalPair order within x) a b
  byte_pair_within same (inl co) = (edge.Co, (inside, same, co))
  byte_pair_within same (inr fr) = (edge.Fr, (inside, same, fr))

-- where a target stands from the place of a source on, the opening holds
opens : (o : Opening) (items : List Item) (m n place : ℕ) → IsAt o items n place → m + 2 ≤ place → Opens o items m n × (m < n)
opens opening.Always items m n place at reaches = (tt, omega arith)
opens (opening.Fence kind) items m n place at reaches =
    let between = (fence_between kind items m n place at).1 reaches in
    let behind = between.behind in
    let ahead = between.ahead in
    (between, omega arith)
opens opening.Pair items m n place at reaches = absurd at

pub place_small : (o : Opening) (items : List Item) (n place : ℕ) → IsAt o items n place → place ≤ n + 1
place_small opening.Always items n place at = omega arith
place_small (opening.Fence kind) items n place at = elim (cases_lt 0 place) [
  | inl some ↦ (let (p, less, fence, few, is) = at.there some in omega arith)
  | inr none ↦ omega arith
]
place_small opening.Pair items n place at = absurd at

-- what a door admits between two accesses of a thread is a pair of External
door_pair : (order : Order) (doors : List Door) (within : Bool) (x : Execution) → AreDoorsOf order doors → HasOwnKinds order → (k : ℕ) (door : Door) → slice_get doors k ≡ Some door
    → (a b : Event) → a.id.thread ≡ b.id.thread → Admits door (items_of x.threads a.id.thread) a.id.index b.id.index → SomeKind (ExternalPair order within x) a b
door_pair order doors within x law own k door listed a b same admits =
    let kept = all_at (IsKept order) doors door law.kept (k, listed) in (
      door.kind,
      local_pair order within x own door.kind a b (record {
        po = record { thread = same; order = admits.order };
        holds = kept (items_of x.threads a.id.thread) a.id.index b.id.index admits;
      }),
    )

gates_pair : (x : Execution) (all : List Access) (order : Order) (doors : List Door) (within : Bool) → AreDoorsOf order doors → HasOwnKinds order
    → (s u : Slot) (one : GateSource x all doors s) (two : GateTarget x all doors u) → one.access.id.thread ≡ two.access.id.thread → one.k ≡ two.k → one.access.id.index + 2 ≤ two.place
    → SomeKind (ExternalPair order within x) (event one.access) (event two.access)
gates_pair x all order doors within law own s u one two same same_k reaches =
    let items = items_of x.threads one.access.id.thread in
    let listed = two.listed in
    let listed_one = one.listed in
    let moved = subst (λ (k : ℕ). slice_get doors k ≡ Some two.door) (sym same_k) listed in
    let door : two.door ≡ one.door = cc in
    let At : Door → ℕ → Type 0 = λ d t. IsOfSide d.to (items_of x.threads t) two.access.id.index × IsAt d.opening (items_of x.threads t) two.access.id.index two.place in
    let both = subst (λ (t : ℕ). At one.door t) (sym same) (subst (λ (d : Door). At d two.access.id.thread) door (two.side, two.at)) in
    let (opened, less) = opens one.door.opening items one.access.id.index two.access.id.index two.place both.1 reaches in
    door_pair order doors within x law own one.k one.door one.listed (event one.access) (event two.access) same
    (record { order = less; from = one.side; to = both.0; opening = opened })

pub index_small : (x : Execution) (all : List Access) (firsts : List ℕ) → IsJudgeable x → all ≡ all_accesses x.threads → AreNumbered all firsts → (n : ℕ) (a : Access) → slice_get all n ≡ Some a
    → a.id.index < 4096
index_small x all firsts judged same numbered n a here =
    let (first, begins, is) = numbered.told n a here in
    let below = place_below all n a here in
    let size = ap {B = ℕ} (λ (l : List Access). length l) same in
    let few = judged.few in
    omega arith

told : (x : Execution) (all : List Access) (order : Order) (within : Bool) (m n i j : ℕ) (a b : Access) → slice_get all m ≡ Some a → slice_get all n ≡ Some b → m ≡ i → n ≡ j
    → SomeKind (ExternalPair order within x) (event a) (event b) → Told all (SomeKind (ExternalPair order within x)) i j
told x all order within m n i j a b first second first_is second_is pair = record {
  first = a;
  second = b;
  first_there = subst (λ (k : ℕ). slice_get all k ≡ Some a) first_is first;
  second_there = subst (λ (k : ℕ). slice_get all k ≡ Some b) second_is second;
  pair = pair;
}

-- each pair of the lanes is one of External
lanes_pair : (x : Execution) (all : List Access) (firsts : List ℕ) (order : Order) (doors : List Door) (within : Bool) (sources targets : List Slot) (direct : List Edge)
    → IsLaned x all firsts order doors within sources targets direct → (i j : ℕ) → InLanes sources targets i j → Told all (SomeKind (ExternalPair order within x)) i j
lanes_pair x all firsts order doors within sources targets direct known i j lanes =
    let s = lanes.source in
    let u = lanes.target in
    elim (source_form x all within doors sources known.judged known.same known.sources_told s lanes.source_there) [
      | inl byte ↦ elim (target_form x all doors targets known.judged known.same known.targets_told u lanes.target_there) [
        | inl write ↦ bytes byte write
        | inr gate ↦ absurd (
            let tags = same_lane _ byte.tag byte.place _ (16 + gate.k) gate.place (small byte.tag byte.few) (gate_small gate.k gate.door gate.listed)
            (byte_place byte.place byte.fits) (target_place gate) (same_keys _ _ byte.is gate.is) in
            let few = byte.few in
            let threads = known.judged.threads in
            let tag = tags.1 in
            omega arith)
      ]
      | inr gate ↦ elim (target_form x all doors targets known.judged known.same known.targets_told u lanes.target_there) [
        | inl write ↦ absurd (
            let tags = same_lane _ (16 + gate.k) (gate.access.id.index + 2) _ write.access.id.thread write.place (gate_small gate.k gate.door gate.listed) (small write.access.id.thread write.few)
            (source_place gate) (write_place write) (same_keys _ _ gate.is write.is) in
            let few = write.few in
            let threads = known.judged.threads in
            let tag = tags.1 in
            omega arith)
        | inr other ↦ gates gate other
      ]
    ]
  where
    small : (t : ℕ) → t < length x.threads → t < 32
    small t few = let threads = known.judged.threads in omega arith

    gate_small : (k : ℕ) (door : Door) → slice_get doors k ≡ Some door → 16 + k < 32
    gate_small k door listed = let below = place_below doors k door listed in let few = known.few_doors in omega arith

    byte_place : (place : ℕ) → place ≤ length x.co → place < 4294967296
    byte_place place fits = let few = known.few in omega arith

    write_place : (write : ByteTarget x all lanes.target) → write.place < 4294967296
    write_place write = let below = place_below x.co write.place write.access.id write.listed in let few = known.few in omega arith

    source_place : (gate : GateSource x all doors lanes.source) → gate.access.id.index + 2 < 4294967296
    source_place gate = let index = index_small x all firsts known.judged known.same known.numbered gate.number gate.access gate.here in omega arith

    target_place : (gate : GateTarget x all doors lanes.target) → gate.place < 4294967296
    target_place gate =
        let index = index_small x all firsts known.judged known.same known.numbered gate.number gate.access gate.here in
        let place = place_small gate.door.opening (items_of x.threads gate.access.id.thread) gate.access.id.index gate.place gate.at in
        omega arith

    same_keys : (one two : Slot) → lanes.source ≡ one → lanes.target ≡ two → lane_of one.key ≡ lane_of two.key
    same_keys one two first second =
        let left = ap {B = ℕ} (λ (t : Slot). lane_of t.key) first in
        let right = ap {B = ℕ} (λ (t : Slot). lane_of t.key) second in
        let same = lanes.same in
        sym left ∙ (same ∙ right)

    order_of : (one two : Slot) → lanes.source ≡ one → lanes.target ≡ two → one.key ≤ two.key
    order_of one two first second =
        let Le : Slot → Slot → Type 0 = λ a b. a.key ≤ b.key in
        subst (λ (t : Slot). Le one t) second (subst (λ (t : Slot). Le t lanes.target) first lanes.order)

    first_number : (n key : ℕ) → lanes.source ≡ record { key = key; event = n } → n ≡ i
    first_number n key is = let event_is = ap {B = ℕ} (λ (t : Slot). t.event) is in sym event_is ∙ lanes.first

    second_number : (n key : ℕ) → lanes.target ≡ record { key = key; event = n } → n ≡ j
    second_number n key is = let event_is = ap {B = ℕ} (λ (t : Slot). t.event) is in sym event_is ∙ lanes.second

    bytes : ByteSource x all within lanes.source → ByteTarget x all lanes.target → Told all (SomeKind (ExternalPair order within x)) i j
    bytes byte write =
        let (same_byte, same_tag) = same_lane (byte.access.address + byte.k) byte.tag byte.place (write.access.address + write.m) write.access.id.thread write.place
        (small byte.tag byte.few) (small write.access.id.thread write.few) (byte_place byte.place byte.fits) (write_place write) (same_keys _ _ byte.is write.is) in
        let reaches = same_order (byte.access.address + byte.k) byte.tag byte.place (write.access.address + write.m) write.access.id.thread write.place same_byte same_tag
        (order_of _ _ byte.is write.is) in
        let guard = subst (λ (t : ℕ). (within ≡ true) ⊎ (t ≢ byte.access.id.thread)) same_tag byte.guard in
        told x all order within byte.number write.number i j byte.access write.access byte.here write.here (first_number _ _ byte.is) (second_number _ _ write.is)
        (byte_pair order within x (event byte.access) (event write.access) guard (byte.before write.place write.m write.access write.writes write.listed write.within same_byte reaches))

    gates : GateSource x all doors lanes.source → GateTarget x all doors lanes.target → Told all (SomeKind (ExternalPair order within x)) i j
    gates one two =
        let (same_thread, same_tag) = same_lane one.access.id.thread (16 + one.k) (one.access.id.index + 2) two.access.id.thread (16 + two.k) two.place
        (gate_small one.k one.door one.listed) (gate_small two.k two.door two.listed) (source_place one) (target_place two) (same_keys _ _ one.is two.is) in
        let reaches = same_order one.access.id.thread (16 + one.k) (one.access.id.index + 2) two.access.id.thread (16 + two.k) two.place same_thread same_tag
        (order_of _ _ one.is two.is) in
        told x all order within one.number two.number i j one.access two.access one.here two.here (first_number _ _ one.is) (second_number _ _ two.is)
        (gates_pair x all order doors within known.law known.own lanes.source lanes.target one two same_thread (omega arith) reaches)

apart_of : (write read one two : ℕ) → (false ≡ true) ⊎ (write ≢ read) → one ≡ write → two ≡ read → one ≡ two → ⊥
apart_of write read one two (inl never) first second same = absurd cc
apart_of write read one two (inr differ) first second same = differ (sym first ∙ (same ∙ second))

-- each pair that is told by itself is one of External
direct_pair : (x : Execution) (all : List Access) (firsts : List ℕ) (order : Order) (doors : List Door) (within : Bool) (sources targets : List Slot) (direct : List Edge)
    → IsLaned x all firsts order doors within sources targets direct → (i j : ℕ) → IsExternalEdge x all doors (record { from = i; to = j }) → Told all (SomeKind (ExternalPair order within x)) i j
direct_pair x all firsts order doors within sources targets direct known i j (inl (e, entry, less, listed, (k, Start, k_less, byte, none))) = absurd none
direct_pair x all firsts order doors within sources targets direct known i j (inl (e, entry, less, listed, (k, From w, k_less, byte, (guard, link)))) =
    let write_named = link.from_is.named in
    let read_named = link.to_is.named in
    let byte_here = subst (λ (v : EventId). slice_get entry.bytes k ≡ Some (From v)) (sym write_named) byte in
    let thread_w = ap {B = ℕ} (λ (v : EventId). v.thread) write_named in
    let thread_r = ap {B = ℕ} (λ (v : EventId). v.thread) read_named in
    told x all order within i j i j link.from link.to link.from_is.here link.to_is.here refl refl
    (edge.Rfe, (apart_of w.thread entry.read.thread link.from.id.thread link.to.id.thread guard thread_w thread_r, record { k = k; source = record { entry = entry; listed = (e, listed); read = sym read_named; byte = byte_here } }))
direct_pair x all firsts order doors within sources targets direct known i j (inr (t, thread, less, here, (k, door, k_less, listed, (is_pair, (m, a, m_less, at, (b, there, from, to, locked, link)))))) =
    let (first_id, items) = placed x known.judged t thread m a here at in
    let (second_id, also) = placed x known.judged t thread (m + 1) b here there in
    let first_named = link.from_is.named ∙ first_id in
    let second_named = link.to_is.named ∙ second_id in
    let admits : Admits door thread.items m (m + 1) = record { order = omega arith; from = from; to = to; opening = subst (λ (o : Opening). Opens o thread.items m (m + 1)) (sym is_pair) locked } in
    let Moved : EventId → EventId → Type 0 = λ one two. Admits door (items_of x.threads one.thread) one.index two.index in
    let here_admits = subst (λ (l : List Item). Admits door l m (m + 1)) (sym items) admits in
    let moved = subst (λ (two : EventId). Moved link.from.id two) (sym second_named)
    (subst (λ (one : EventId). Moved one (record { thread = t; index = m + 1 })) (sym first_named) here_admits) in
    let same = ap {B = ℕ} (λ (v : EventId). v.thread) first_named ∙ sym (ap {B = ℕ} (λ (v : EventId). v.thread) second_named) in
    told x all order within i j i j link.from link.to link.from_is.here link.to_is.here refl refl
    (door_pair order doors within x known.law known.own k door listed (event link.from) (event link.to) same moved)

-- each pair of an execution's lanes is one of External
pub crosses_pair : (x : Execution) (all : List Access) (firsts : List ℕ) (order : Order) (doors : List Door) (within : Bool) (sources targets : List Slot) (direct : List Edge)
    → IsLaned x all firsts order doors within sources targets direct → (i j : ℕ) → Crosses direct sources targets i j → Told all (SomeKind (ExternalPair order within x)) i j
crosses_pair x all firsts order doors within sources targets direct known i j (inl leads) = elim ((known.direct_told.told (record { from = i; to = j })).0 leads) [
  | inl old ↦ absurd (let (n, here) = old in cc)
  | inr made ↦ direct_pair x all firsts order doors within sources targets direct known i j made
]
crosses_pair x all firsts order doors within sources targets direct known i j (inr lanes) = lanes_pair x all firsts order doors within sources targets direct known i j lanes
