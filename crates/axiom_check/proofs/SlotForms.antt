-- What the slots of an execution's lanes say: bytes of writes and reads, and accesses at doors.
use Rattle.std.proofs.Common.{◌≡◌, ◌≢◌, ◌<◌, ◌≤◌, ◌+◌, ℕ, Bool, true, List, [], length, Option, Some, ◌⊎◌, inl, inr, refl, sym, ap, subst, ◌∙◌, arith}
use Rattle.std.specs.List.{slice_get}
use Rattle.ev_graph.specs.declared.events.Access.{Access}
use Rattle.ev_graph.specs.declared.events.AccessKind.{AccessKind}
use Rattle.ev_graph.specs.declared.events.AccessKind.TheVariants.{Read, Write}
use Rattle.ev_graph.specs.declared.events.EventId.{EventId}
use Rattle.ev_graph.specs.declared.events.Item.{Item}
use Rattle.ev_graph.specs.declared.execution.Execution.{Execution}
use Rattle.ev_graph.specs.declared.execution.Source.{Source}
use Rattle.ev_graph.specs.declared.execution.Source.TheVariants.{Start, From}
use Rattle.ev_graph.specs.declared.execution.ThreadRun.{ThreadRun}
use Rattle.ev_graph.specs.Events.{accesses, event, items_of}
use Rattle.ev_graph.specs.Pairs.{Co, Fr}
use Rattle.ev_graph.specs.Places.{StandsIn}
use Rattle.ev_graph.specs.WellFormed.{all_accesses, is_read}
use Rattle.ev_graph.proofs.Ids.{from_all}
use Rattle.ev_graph.proofs.Threads.{items_of_some}
use Rattle.order_models.specs.declared.doors.Door.{Door}
use Rattle.order_models.specs.Doors.{IsOfSide}
use Rattle.axiom_check.specs.declared.lanes.Slot.{Slot}
use Rattle.axiom_check.specs.Gains.{Gains, Below}
use Rattle.axiom_check.specs.Numbers.{IsNumbered}
use Rattle.axiom_check.specs.Bytes.{key, IsFrom, IsCoSource, IsCoTarget, IsEntrySource}
use Rattle.axiom_check.specs.Gates.{IsAt, IsThreadSource, IsThreadTarget}
use Rattle.axiom_check.specs.External.{IsJudgeable, IsExternalSource, IsExternalTarget}
use Rattle.axiom_check.proofs.LanesLemmas.{place_below}
use Rattle.axiom_check.proofs.Judged.{IsCoWrite, co_write, entry_read}
use Rattle.axiom_check.proofs.BytePairs.{co_pair, fr_pair}

-- a slot of an event at one of its bytes: the event comes before each write of the slot's thread from a place of co on that covers the byte
pub record ByteSource (x : Execution) (all : List Access) (within : Bool) (s : Slot) : Type 0 where
  pub number : ℕ
  pub access : Access
  pub here : slice_get all number ≡ Some access
  pub k : ℕ
  pub tag : ℕ
  pub place : ℕ
  pub few : tag < length x.threads
  pub guard : (within ≡ true) ⊎ (tag ≢ access.id.thread)
  pub fits : place ≤ length x.co
  pub is : s ≡ record { key = key (access.address + k) tag place; event = number }
  pub before : (j m : ℕ) (b : Access) → b.kind ≡ Write → slice_get x.co j ≡ Some b.id → m < b.size → access.address + k ≡ b.address + m → place ≤ j
      → Co x.co (event access) (event b) ⊎ Fr x.rf x.co (event access) (event b)

-- a slot of a write at one of its bytes
pub record ByteTarget (x : Execution) (all : List Access) (s : Slot) : Type 0 where
  pub number : ℕ
  pub access : Access
  pub here : slice_get all number ≡ Some access
  pub m : ℕ
  pub within : m < access.size
  pub place : ℕ
  pub listed : slice_get x.co place ≡ Some access.id
  pub writes : access.kind ≡ Write
  pub few : access.id.thread < length x.threads
  pub is : s ≡ record { key = key (access.address + m) access.id.thread place; event = number }

-- a slot of an access as a source of a door
pub record GateSource (x : Execution) (all : List Access) (doors : List Door) (s : Slot) : Type 0 where
  pub number : ℕ
  pub access : Access
  pub here : slice_get all number ≡ Some access
  pub k : ℕ
  pub door : Door
  pub listed : slice_get doors k ≡ Some door
  pub side : IsOfSide door.from (items_of x.threads access.id.thread) access.id.index
  pub is : s ≡ record { key = key access.id.thread (16 + k) (access.id.index + 2); event = number }

-- a slot of an access as a target of a door
pub record GateTarget (x : Execution) (all : List Access) (doors : List Door) (s : Slot) : Type 0 where
  pub number : ℕ
  pub access : Access
  pub here : slice_get all number ≡ Some access
  pub k : ℕ
  pub door : Door
  pub listed : slice_get doors k ≡ Some door
  pub side : IsOfSide door.to (items_of x.threads access.id.thread) access.id.index
  pub place : ℕ
  pub at : IsAt door.opening (items_of x.threads access.id.thread) access.id.index place
  pub is : s ≡ record { key = key access.id.thread (16 + k) place; event = number }

same_access : (all : List Access) (id : EventId) (n m : ℕ) (a b : Access) → IsNumbered all id n a → slice_get all m ≡ Some b → n ≡ m → a ≡ b
same_access all id n m a b first second same = let moved = subst (λ (i : ℕ). slice_get all i ≡ Some a) same first.here in cc

read_kind : (kind : AccessKind) → is_read kind ≡ true → kind ≡ Read
read_kind Read is = refl
read_kind Write is = absurd cc

co_source : (x : Execution) (all : List Access) (within : Bool) (s : Slot) → IsJudgeable x → all ≡ all_accesses x.threads
    → Below x.co (IsCoSource all within (length x.threads)) (length x.co) s → ByteSource x all within s
co_source x all within s judged same (i, id, less, here, (n, a, found, (k, in_a, (t, few, (guard, is))))) =
    let write = co_write x all judged same i id here in
    let listed = subst (λ (e : EventId). slice_get x.co i ≡ Some e) (sym found.named) here in
    let id_of = write.numbered.named in
    let id_is = found.named in
    record {
      number = n;
      access = a;
      here = found.here;
      k = k;
      tag = t;
      place = i + 1;
      few = few;
      guard = guard;
      fits = omega arith;
      is = is;
      before = λ j m b writes there in_b byte order. inl (co_pair x.co a b i j k m (writes_of write found) writes listed there in_a in_b byte order);
    }
  where
    writes_of : IsCoWrite x all id → IsNumbered all id n a → a.kind ≡ Write
    writes_of write found =
        let (t1, n1, at1) = from_all x.threads a (n, subst (λ (l : List Access). slice_get l n ≡ Some a) same found.here) in
        let (t2, n2, at2) = from_all x.threads write.access (write.number, subst (λ (l : List Access). slice_get l write.number ≡ Some write.access) same write.numbered.here) in
        let one = judged.shaped.indexed t1 n1 a at1 in
        let two = judged.shaped.indexed t2 n2 write.access at2 in
        let name_one = found.named in
        let name_two = write.numbered.named in
        let At : EventId → Option Access = λ e. slice_get (accesses (items_of x.threads e.thread)) e.index in
        let moved = ap At (sym one ∙ name_one) in
        let moved_two = ap At (sym two ∙ name_two) in
        let is : a ≡ write.access = cc in
        let kind = write.writes in
        cc

-- the access that rf reads into is a read
entry_reads : (x : Execution) (all : List Access) (id : EventId) (n : ℕ) (a r : Access) → IsJudgeable x → all ≡ all_accesses x.threads → IsNumbered all id n a
    → slice_get (accesses (items_of x.threads id.thread)) id.index ≡ Some r → a ≡ r
entry_reads x all id n a r judged same found there =
    let (t, m, at) = from_all x.threads a (n, subst (λ (l : List Access). slice_get l n ≡ Some a) same found.here) in
    let one = judged.shaped.indexed t m a at in
    let named = found.named in
    let At : EventId → Option Access = λ e. slice_get (accesses (items_of x.threads e.thread)) e.index in
    let moved = ap At (sym one ∙ named) in
    cc

entry_source : (x : Execution) (all : List Access) (within : Bool) (s : Slot) → IsJudgeable x → all ≡ all_accesses x.threads
    → Below x.rf (IsEntrySource all x.co within (length x.threads)) (length x.rf) s → ByteSource x all within s
entry_source x all within s judged same (e, entry, less, listed, (n, a, found, (k, source, k_less, byte, (place, from, (t, few, (guard, is)))))) =
    let (r, there, reads) = entry_read x judged entry (e, listed) in
    let same_read = entry_reads x all entry.read n a r judged same found there in
    let kind : a.kind ≡ Read = (let reads_r = read_kind r.kind reads in cc) in
    let size = judged.shaped.entries.sizes entry r (e, listed) there in
    let size_is = ap {B = ℕ} (λ (b : Access). b.size) same_read in
    record {
      number = n;
      access = a;
      here = found.here;
      k = k;
      tag = t;
      place = place;
      few = few;
      guard = guard;
      fits = from_fits x.co source place from;
      is = is;
      before = λ j m b writes at in_b same_byte order.
          inr (fr_pair x.rf x.co a b source place j k m kind writes (record { entry = entry; listed = (e, listed); read = sym found.named; byte = byte }) from at (omega arith) in_b same_byte order);
    }
  where
    from_fits : (co : List EventId) (source : Source) (place : ℕ) → IsFrom co source place → place ≤ length co
    from_fits co Start place is_zero = omega arith
    from_fits co (From w) place (i, at, is_next) = let below = place_below co i w at in omega arith

-- an access of a thread, by its thread and number
pub placed : (x : Execution) → IsJudgeable x → (t : ℕ) (thread : ThreadRun) (m : ℕ) (a : Access) → slice_get x.threads t ≡ Some thread → slice_get (accesses thread.items) m ≡ Some a
    → (a.id ≡ record { thread = t; index = m }) × (items_of x.threads t ≡ thread.items)
placed x judged t thread m a here there =
    let items = items_of_some x.threads t thread here in
    let at = subst (λ (l : List Item). slice_get (accesses l) m ≡ Some a) (sym items) there in
    (judged.shaped.indexed t m a at, items)

gate_source : (x : Execution) (all : List Access) (doors : List Door) (s : Slot) → IsJudgeable x
    → Below x.threads (IsThreadSource all doors) (length x.threads) s → GateSource x all doors s
gate_source x all doors s judged (t, thread, less, here, (k, door, k_less, listed, (wide, (m, a, m_less, at, (side, (n, b, found, is)))))) =
    let (id, items) = placed x judged t thread m a here at in
    let named : b.id ≡ record { thread = t; index = m } = found.named ∙ id in
    let thread_is = ap {B = ℕ} (λ (i : EventId). i.thread) named in
    let index_is = ap {B = ℕ} (λ (i : EventId). i.index) named in
    let Side : List Item → ℕ → Type 0 = λ l i. IsOfSide door.from l i in
    let moved = subst (λ (l : List Item). Side l m) (sym items) side in
    let moved_thread = subst (λ (u : ℕ). Side (items_of x.threads u) m) (sym thread_is) moved in
    let IsAtPlace : ℕ → Type 0 = λ i. s ≡ record { key = key b.id.thread (16 + k) (i + 2); event = n } in
    record {
      number = n;
      access = b;
      here = found.here;
      k = k;
      door = door;
      listed = listed;
      side = subst (λ (i : ℕ). Side (items_of x.threads b.id.thread) i) (sym index_is) moved_thread;
      is = subst IsAtPlace (sym index_is) is;
    }

gate_target : (x : Execution) (all : List Access) (doors : List Door) (s : Slot) → IsJudgeable x
    → Below x.threads (IsThreadTarget all doors) (length x.threads) s → GateTarget x all doors s
gate_target x all doors s judged (t, thread, less, here, (k, door, k_less, listed, (wide, (m, a, m_less, at, (side, (place, at_place, (n, b, found, is))))))) =
    let (id, items) = placed x judged t thread m a here at in
    let named : b.id ≡ record { thread = t; index = m } = found.named ∙ id in
    let thread_is = ap {B = ℕ} (λ (i : EventId). i.thread) named in
    let index_is = ap {B = ℕ} (λ (i : EventId). i.index) named in
    let Both : List Item → ℕ → Type 0 = λ l i. IsOfSide door.to l i × IsAt door.opening l i place in
    let moved = subst (λ (l : List Item). Both l m) (sym items) (side, at_place) in
    let moved_thread = subst (λ (u : ℕ). Both (items_of x.threads u) m) (sym thread_is) moved in
    let both = subst (λ (i : ℕ). Both (items_of x.threads b.id.thread) i) (sym index_is) moved_thread in
    record { number = n; access = b; here = found.here; k = k; door = door; listed = listed; side = both.0; place = place; at = both.1; is = is }

co_target : (x : Execution) (all : List Access) (s : Slot) → IsJudgeable x → all ≡ all_accesses x.threads → Below x.co (IsCoTarget all) (length x.co) s → ByteTarget x all s
co_target x all s judged same (i, id, less, here, (n, a, found, (m, in_a, is))) =
    let write = co_write x all judged same i id here in
    let (t, index, at) = from_all x.threads write.access (write.number, subst (λ (l : List Access). slice_get l write.number ≡ Some write.access) same write.numbered.here) in
    let At : EventId → Option Access = λ e. slice_get (accesses (items_of x.threads e.thread)) e.index in
    let moved = ap At (sym (judged.shaped.indexed t index write.access at) ∙ write.numbered.named) in
    let there : slice_get (accesses (items_of x.threads id.thread)) id.index ≡ Some write.access = cc in
    let is_write = entry_reads x all id n a write.access judged same found there in
    let kind = write.writes in
    let thread = write.thread in
    let thread_is = ap {B = ℕ} (λ (e : EventId). e.thread) found.named in
    record {
      number = n;
      access = a;
      here = found.here;
      m = m;
      within = in_a;
      place = i;
      listed = subst (λ (e : EventId). slice_get x.co i ≡ Some e) (sym found.named) here;
      writes = cc;
      few = omega arith;
      is = is;
    }

-- a source of the lanes is one of the two
pub source_form : (x : Execution) (all : List Access) (within : Bool) (doors : List Door) (sources : List Slot) → IsJudgeable x → all ≡ all_accesses x.threads
    → Gains (IsExternalSource x all within doors) [] sources → (s : Slot) → StandsIn sources s → ByteSource x all within s ⊎ GateSource x all doors s
source_form x all within doors sources judged same gains s there = elim ((gains.told s).0 there) [
  | inl old ↦ absurd (let (i, here) = old in cc)
  | inr made ↦ elim made [
    | inl byte ↦ elim byte [ inl write ↦ inl (co_source x all within s judged same write) | inr entry ↦ inl (entry_source x all within s judged same entry) ]
    | inr gate ↦ inr (gate_source x all doors s judged gate)
  ]
]

-- a target of the lanes is one of the two
pub target_form : (x : Execution) (all : List Access) (doors : List Door) (targets : List Slot) → IsJudgeable x → all ≡ all_accesses x.threads
    → Gains (IsExternalTarget x all doors) [] targets → (s : Slot) → StandsIn targets s → ByteTarget x all s ⊎ GateTarget x all doors s
target_form x all doors targets judged same gains s there = elim ((gains.told s).0 there) [
  | inl old ↦ absurd (let (i, here) = old in cc)
  | inr made ↦ elim made [ inl write ↦ inl (co_target x all s judged same write) | inr gate ↦ inr (gate_target x all doors s judged gate) ]
]
