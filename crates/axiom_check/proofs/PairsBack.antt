-- Each pair of the axiom External of an execution is one of its lanes: coherence and from-reads.
use Rattle.std.proofs.Common.{◌≡◌, ◌≢◌, ◌<◌, ◌≤◌, ◌+◌, ◌-◌, ℕ, Bool, true, List, Some, ◌⊎◌, inl, inr, refl, sym, subst, arith}
use Rattle.std.specs.List.{slice_get}
use Rattle.ev_graph.specs.declared.events.Access.{Access}
use Rattle.ev_graph.specs.declared.events.EventId.{EventId}
use Rattle.ev_graph.specs.declared.execution.Execution.{Execution}
use Rattle.ev_graph.specs.declared.execution.Source.{Source}
use Rattle.ev_graph.specs.declared.execution.Source.TheVariants.{Start, From}
use Rattle.ev_graph.specs.Events.{accesses, event, items_of}
use Rattle.ev_graph.specs.Pairs.{Co, Fr}
use Rattle.ev_graph.specs.Places.{StandsIn}
use Rattle.ev_graph.proofs.Ids.{from_all, write_id_in}
use Rattle.order_models.specs.declared.doors.Door.{Door}
use Rattle.order_models.specs.Orders.{Order}
use Rattle.topo.specs.declared.edge.Edge.{Edge}
use Rattle.axiom_check.specs.declared.lanes.Slot.{Slot}
use Rattle.axiom_check.specs.Lanes.{InLanes, lane_of}
use Rattle.axiom_check.specs.Bytes.{key, IsFrom, IsKnown}
use Rattle.axiom_check.proofs.LanesLemmas.{place_below}
use Rattle.axiom_check.proofs.Judged.{sources_known, thread_below}
use Rattle.axiom_check.proofs.BytePairs.{overlap_bytes, from_before}
use Rattle.axiom_check.proofs.ExternalPairs.{IsLaned}

-- two keys at one byte and number are of one lane, ordered as their places
pub same_keys : (byte other tag place at : ℕ) → byte ≡ other → place < 4294967296 → at < 4294967296 → place ≤ at
    → (lane_of (key byte tag place) ≡ lane_of (key other tag at)) × (key byte tag place ≤ key other tag at)
same_keys byte other tag place at same fits at_fits order = (omega arith, omega arith)

-- an access of the threads, by the id that it has
pub own_place : (x : Execution) (all : List Access) (firsts : List ℕ) (order : Order) (doors : List Door) (within : Bool) (sources targets : List Slot) (direct : List Edge)
    → IsLaned x all firsts order doors within sources targets direct → (n : ℕ) (a : Access) → slice_get all n ≡ Some a → slice_get (accesses (items_of x.threads a.id.thread)) a.id.index ≡ Some a
own_place x all firsts order doors within sources targets direct known n a here =
    let (t, m, at) = from_all x.threads a (n, subst (λ (l : List Access). slice_get l n ≡ Some a) known.same here) in
    let id = known.judged.shaped.indexed t m a at in
    let At : EventId → Type 0 = λ i. slice_get (accesses (items_of x.threads i.thread)) i.index ≡ Some a in
    subst At (sym id) at

-- a pair of bytes that co orders is one of the lanes
byte_lanes : (x : Execution) (all : List Access) (firsts : List ℕ) (order : Order) (doors : List Door) (within : Bool) (sources targets : List Slot) (direct : List Edge)
    → IsLaned x all firsts order doors within sources targets direct → (i j : ℕ) (a b : Access) → slice_get all j ≡ Some b → (k m place at : ℕ) → m < b.size
    → a.address + k ≡ b.address + m → slice_get x.co at ≡ Some b.id → place ≤ at
    → StandsIn sources (record { key = key (a.address + k) b.id.thread place; event = i }) → InLanes sources targets i j
byte_lanes x all firsts order doors within sources targets direct known i j a b there k m place at in_b same listed before source =
    let below = place_below x.co at b.id listed in
    let few = known.few in
    let keys = same_keys (a.address + k) (b.address + m) b.id.thread place at same (omega arith) (omega arith) before in
    record {
      source = record { key = key (a.address + k) b.id.thread place; event = i };
      target = record { key = key (b.address + m) b.id.thread at; event = j };
      source_there = source;
      target_there = (known.targets_told.told _).1 (inr (inl (at, b.id, below, listed, (j, b, record { here = there; named = refl }, (m, in_b, refl)))));
      first = refl;
      second = refl;
      same = keys.0;
      order = keys.1;
    }

-- coherence is among the lanes
pub co_lanes : (x : Execution) (all : List Access) (firsts : List ℕ) (order : Order) (doors : List Door) (within : Bool) (sources targets : List Slot) (direct : List Edge)
    → IsLaned x all firsts order doors within sources targets direct → (i j : ℕ) (a b : Access) → slice_get all i ≡ Some a → slice_get all j ≡ Some b
    → (within ≡ true) ⊎ (b.id.thread ≢ a.id.thread) → Co x.co (event a) (event b) → InLanes sources targets i j
co_lanes x all firsts order doors within sources targets direct known i j a b here there guard co =
    let (k, m, in_a, in_b, same) = overlap_bytes a b co.overlap in
    let at = co.earlier in
    let before = at.order in
    let below = place_below x.co at.i a.id at.first in
    let thread = thread_below x.threads b.id.thread b.id.index b (own_place x all firsts order doors within sources targets direct known j b there) in
    byte_lanes x all firsts order doors within sources targets direct known i j a b there k m (at.i + 1) at.j in_b same at.second (omega arith)
    ((known.sources_told.told _).1 (inr (inl (inl (at.i, a.id, below, at.first, (i, a, record { here = here; named = refl }, (k, in_a, (b.id.thread, thread, (guard, refl)))))))))

known_from : (all : List Access) (x : Execution) (source : Source) → IsKnown all x.co source → (place : ℕ) × IsFrom x.co source place
known_from all x Start known = (0, refl)
known_from all x (From w) (i, n, a, at, numbered) = (i + 1, (i, at, refl))

-- from-reads are among the lanes
pub fr_lanes : (x : Execution) (all : List Access) (firsts : List ℕ) (order : Order) (doors : List Door) (within : Bool) (sources targets : List Slot) (direct : List Edge)
    → IsLaned x all firsts order doors within sources targets direct → (i j : ℕ) (a b : Access) → slice_get all i ≡ Some a → slice_get all j ≡ Some b
    → (within ≡ true) ⊎ (b.id.thread ≢ a.id.thread) → Fr x.rf x.co (event a) (event b) → InLanes sources targets i j
fr_lanes x all firsts order doors within sources targets direct known i j a b here there guard fr =
    let from = fr.from in
    let (e, listed) = from.listed in
    let byte_known = sources_known x all known.judged known.same e from.entry fr.k fr.source listed from.byte in
    let (place, is_from) = known_from all x fr.source byte_known in
    let stands = own_place x all firsts order doors within sources targets direct known j b there in
    let (at, at_there) = known.judged.co.each b.id (write_id_in x.threads known.judged.shaped.indexed b.id b stands fr.write) in
    let thread = thread_below x.threads b.id.thread b.id.index b stands in
    let before = from_before x.co known.judged.co.once fr.source b fr.later at at_there place is_from in
    let low = fr.covers.0 in
    let high = fr.covers.1 in
    let below = place_below x.rf e from.entry listed in
    let k_below = place_below from.entry.bytes fr.k fr.source from.byte in
    byte_lanes x all firsts order doors within sources targets direct known i j a b there fr.k (a.address + fr.k - b.address) place at (omega arith) (omega arith) at_there before
    ((known.sources_told.told _).1 (inr (inl (inr (
      e,
      from.entry,
      below,
      listed,
      (
        i,
        a,
        record { here = here; named = sym from.read },
        (fr.k, fr.source, k_below, from.byte, (place, is_from, (b.id.thread, thread, (guard, refl)))),
      ),
    )))))
