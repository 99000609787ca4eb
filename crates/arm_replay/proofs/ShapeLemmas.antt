-- The names of the accesses of threads, the entries of their reads, and their locked pairs.
use Rattle.std.proofs.Common.{◌≡◌, ℕ, zero, suc, ◌+◌, ◌&&◌, Bool, true, false, cond, List, [], ◌∷◌, ◌++◌, map, filter, length, Option, Some, None, ⊎_elim, refl, sym, ap, ◌∙◌, subst, arith}
use Rattle.std.specs.Prelude.{slice_get, IsSomeAnd}
use Rattle.std.specs.Option.{option_map}
use Rattle.std.proofs.lemmas.List.{length-replicate, map-append}
use Rattle.std.proofs.lemmas.List.Elements.{filter-append}
use Rattle.std.proofs.lemmas.Option.{slice_get-map}
use Rattle.ev_graph.specs.declared.events.Access.{Access}
use Rattle.ev_graph.specs.declared.events.AccessKind.{AccessKind}
use Rattle.ev_graph.specs.declared.events.AccessKind.TheVariants.{Read, Write}
use Rattle.ev_graph.specs.declared.events.EventId.{EventId}
use Rattle.ev_graph.specs.declared.events.Item.{Item}
use Rattle.ev_graph.specs.declared.events.Item.TheVariants as items
use Rattle.ev_graph.specs.declared.execution.EventPair.{EventPair}
use Rattle.ev_graph.specs.declared.execution.ReadFrom.{ReadFrom}
use Rattle.ev_graph.specs.declared.execution.Source.{Source}
use Rattle.ev_graph.specs.declared.execution.ThreadRun.{ThreadRun}
use Rattle.ev_graph.specs.Places.{StandsIn}
use Rattle.ev_graph.specs.Events.{Event, event, events, accesses, items_of, IsAccessOf, IsRead, IsWrite, IsLocked, LockedPairAt}
use Rattle.ev_graph.specs.WellFormed.{is_read, is_write, all_accesses, IsIndexed, IsLockedPair}
use Rattle.ev_graph.proofs.Members.{stands_front, stands_back, stands_behind, stands_cases, stands_filtered}
use Rattle.ev_graph.proofs.Ids.{from_all}
use Rattle.behavior.specs.Numbered.{numbered_from}
use Rattle.exec_text.specs.declared.exec_file.Given.{Given}
use Rattle.exec_text.specs.declared.exec_file.GivenThread.{GivenThread}
use Rattle.arm_replay.specs.Values.{HasSources, AccessTakes, Takes, reads, given_sources, by_byte, entries, thread_entries, is_pair, pair_with, locked_pairs, thread_pairs}
use Rattle.arm_replay.specs.Replays.{all_entries, all_pairs}

-- ---- names

-- the accesses of items are named by their numbers
pub named : (k i : ℕ) (is : List Item) (n : ℕ) (a : Access) → slice_get (accesses (numbered_from k i is)) n ≡ Some a → a.id ≡ record { thread = k; index = i + n }
named k i [] n a here = absurd cc
named k i (items.Access b ∷ is) zero a here =
    let same : record b { id = record { thread = k; index = i } } ≡ a = cc in
    let e : i ≡ i + 0 = omega arith in
    sym (ap (λ (c : Access). c.id) same) ∙ ap {B = EventId} (λ j. record { thread = k; index = j }) e
named k i (items.Access b ∷ is) (suc n) a here =
    let e : suc i + n ≡ i + suc n = omega arith in
    named k (suc i) is n a here ∙ ap {B = EventId} (λ j. record { thread = k; index = j }) e
named k i (items.Fence f ∷ is) n a here = named k i is n a here
named k i (items.Input t ∷ is) n a here = named k i is n a here
named k i (items.Output t ∷ is) n a here = named k i is n a here

-- ---- entries of rf

-- the entry is that of one of these reads, byte by byte
abbrev pub IsEntryOf : List Access → ReadFrom → Type 0
IsEntryOf others e = (a : Access) × StandsIn others a × (e.read ≡ a.id) × (length e.bytes ≡ a.size)

-- each of these reads has its entry, and each entry is that of one of them
pub record AreEntries (all : List Access) (rf : List ReadFrom) : Type 0 where
  pub ids : map (λ (e : ReadFrom). e.read) rf ≡ map (λ (a : Access). a.id) all
  pub each : (e : ReadFrom) → StandsIn rf e → IsEntryOf all e

by_byte_length : (size : ℕ) (sources : List Source) → HasSources size sources → length (by_byte size sources) ≡ size
by_byte_length size (source ∷ []) has = length-replicate size source
by_byte_length size [] has = ⊎_elim (λ (one : length {A = Source} [] ≡ 1). absurd (omega (arith, one))) (λ (all : length {A = Source} [] ≡ size). all) has
by_byte_length size (one ∷ two ∷ sources) has =
    ⊎_elim (λ (lone : length (one ∷ two ∷ sources) ≡ 1). absurd (omega (arith, lone))) (λ (all : length (one ∷ two ∷ sources) ≡ size). all) has

first_entry : (b : Access) (sources : List Source) (others : List Access) (lines : List (List Source)) → HasSources b.size sources
    → AreEntries others (entries others lines) → AreEntries (b ∷ others) (entries (b ∷ others) (sources ∷ lines))
first_entry b sources others lines has rest = record {
  ids = ap (λ l. b.id ∷ l) rest.ids;
  each = λ e stands. by e stands;
} where
  by : (e : ReadFrom) → StandsIn (record { read = b.id; bytes = by_byte b.size sources } ∷ entries others lines) e → IsEntryOf (b ∷ others) e
  by e (zero, here) =
      let same : record { read = b.id; bytes = by_byte b.size sources } ≡ e = cc in
      (b, (zero, refl), sym (ap (λ (f : ReadFrom). f.read) same), sym (ap (λ (f : ReadFrom). length f.bytes) same) ∙ by_byte_length b.size sources has)
  by e (suc i, here) = let found = rest.each e (i, here) in (found.0, stands_behind others b found.0 found.1, found.2, found.3)

-- an access that takes its value, and what is behind it
access_entry : (kind : AccessKind) (a b : Access) (others : List Access) (values left : List Given) → a.size ≡ b.size → AccessTakes kind a values left
    → AreEntries others (entries others (given_sources left))
    → AreEntries (cond (is_read kind) (b ∷ others) others) (entries (cond (is_read kind) (b ∷ others) others) (given_sources values))
access_entry Read a b others values left size (sources, taken, has) rest =
    let has_too = subst (λ n. HasSources n sources) size has in
    subst (λ lines. AreEntries (b ∷ others) (entries (b ∷ others) lines)) (sym (ap given_sources taken)) (first_entry b sources others (given_sources left) has_too rest)
access_entry Write a b others values left size taken rest =
    subst (λ vs. AreEntries others (entries others (given_sources vs))) (sym taken) rest

-- what a thread adds to rf are the entries of its reads
pub thread_are_entries : (k i : ℕ) (is : List Item) (values left : List Given) → Takes is values left
    → AreEntries (reads (numbered_from k i is)) (thread_entries (numbered_from k i is) values)
thread_are_entries k i [] values left takes = record { ids = refl; each = λ e stands. absurd (none e stands) }
  where
    none : (e : ReadFrom) → StandsIn {A = ReadFrom} [] e → ⊥
    none e (i, here) = absurd cc
thread_are_entries k i (items.Access a ∷ is) values left (rest, taken, takes) =
    access_entry a.kind a (record a { id = record { thread = k; index = i } }) (reads (numbered_from k (suc i) is)) values rest refl taken
    (thread_are_entries k (suc i) is rest left takes)
thread_are_entries k i (items.Fence f ∷ is) values left (rest, taken, takes) =
    subst (λ vs. AreEntries (reads (numbered_from k i is)) (thread_entries (numbered_from k i is) vs)) (sym taken) (thread_are_entries k i is rest left takes)
thread_are_entries k i (items.Input t ∷ is) values left (rest, taken, takes) =
    subst (λ lines. AreEntries (reads (numbered_from k i is)) (entries (reads (numbered_from k i is)) lines)) (sym (ap given_sources taken))
    (thread_are_entries k i is rest left takes)
thread_are_entries k i (items.Output t ∷ is) values left (rest, taken, takes) =
    subst (λ vs. AreEntries (reads (numbered_from k i is)) (thread_entries (numbered_from k i is) vs)) (sym taken) (thread_are_entries k i is rest left takes)

joined_entries : (ones others : List Access) (es fs : List ReadFrom) → AreEntries ones es → AreEntries others fs → AreEntries (ones ++ others) (es ++ fs)
joined_entries ones others es fs first second = record {
  ids = map-append (λ (e : ReadFrom). e.read) es fs ∙ ap (λ l. l ++ map (λ (e : ReadFrom). e.read) fs) first.ids
      ∙ ap (λ l. map (λ (a : Access). a.id) ones ++ l) second.ids ∙ sym (map-append (λ (a : Access). a.id) ones others);
  each = λ e stands. ⊎_elim
      (λ (front : StandsIn es e). let found = first.each e front in (found.0, stands_front ones others found.0 found.1, found.2, found.3))
      (λ (back : StandsIn fs e). let found = second.each e back in (found.0, stands_back ones others found.0 found.1, found.2, found.3)) (stands_cases es fs e stands);
}

-- the reads of all threads
abbrev pub all_reads : List ThreadRun → List Access
all_reads threads = filter (λ (a : Access). is_read a.kind) (all_accesses threads)

-- what all threads add to rf are the entries of their reads
pub all_are_entries : (threads : List ThreadRun) (given : List GivenThread) → length threads ≡ length given
    → ((k : ℕ) (thread : ThreadRun) (values : GivenThread) → slice_get threads k ≡ Some thread → slice_get given k ≡ Some values
    → AreEntries (reads thread.items) (thread_entries thread.items values.values))
    → AreEntries (all_reads threads) (all_entries threads given)
all_are_entries [] given many each = record { ids = refl; each = λ e stands. absurd (none e stands) }
  where
    none : (e : ReadFrom) → StandsIn {A = ReadFrom} [] e → ⊥
    none e (i, here) = absurd cc
all_are_entries (thread ∷ threads) [] many each = absurd (omega (arith, many))
all_are_entries (thread ∷ threads) (values ∷ given) many each =
    subst (λ l. AreEntries l (thread_entries thread.items values.values ++ all_entries threads given))
    (sym (filter-append (λ (a : Access). is_read a.kind) (accesses thread.items) (all_accesses threads)))
    (joined_entries (reads thread.items) (all_reads threads) (thread_entries thread.items values.values) (all_entries threads given)
    (each 0 thread values refl refl) (all_are_entries threads given (omega (arith, many)) (λ k t v at_t at_v. each (suc k) t v at_t at_v)))

same_some : {A : Type 0} (x y : A) (o : Option A) → o ≡ Some x → o ≡ Some y → x ≡ y
same_some x y o first second = cc

-- the entry of a read has as many sources as the read has bytes
pub entry_size : (threads : List ThreadRun) (rf : List ReadFrom) → IsIndexed threads → AreEntries (all_reads threads) rf
    → (e : ReadFrom) (a : Access) → StandsIn rf e → IsAccessOf threads e.read a → length e.bytes ≡ a.size
entry_size threads rf indexed are e a stands found =
    let of_read = are.each e stands in
    let read = of_read.0 in
    let place = from_all threads read (stands_filtered (λ (b : Access). is_read b.kind) (all_accesses threads) read of_read.1).0 in
    let id : e.read ≡ record { thread = place.0; index = place.1 } = of_read.2 ∙ indexed place.0 place.1 read place.2 in
    let there : slice_get (accesses (items_of threads place.0)) place.1 ≡ Some a = subst (λ (v : EventId). IsAccessOf threads v a) id found in
    of_read.3 ∙ ap (λ (b : Access). b.size) (same_some read a (slice_get (accesses (items_of threads place.0)) place.1) place.2 there)

-- ---- locked pairs

-- two accesses, one behind the other, that are a pair
pub record ArePair (all : List Access) (m : ℕ) (a b : Access) : Type 0 where
  pub first : slice_get all m ≡ Some a
  pub second : slice_get all (suc m) ≡ Some b
  pub pair : is_pair a b ≡ true

if_pair : (test : Bool) (a b : Access) (p : EventPair) → StandsIn (cond test (record { first = a.id; second = b.id } ∷ []) []) p
    → (test ≡ true) × (p ≡ record { first = a.id; second = b.id })
if_pair true a b p (zero, here) = (refl, cc)
if_pair true a b p (suc i, here) = absurd cc
if_pair false a b p (i, here) = absurd cc

-- what is listed is a pair
pub pair_from : (all : List Access) (p : EventPair) → StandsIn (locked_pairs all) p
    → (m : ℕ) × (a : Access) × (b : Access) × ArePair all m a b × (p ≡ record { first = a.id; second = b.id })
pair_from [] p (i, here) = absurd cc
pair_from (a ∷ []) p (i, here) = absurd cc
pair_from (a ∷ b ∷ all) p stands =
    ⊎_elim
    (λ (front : StandsIn (cond (is_pair a b) (record { first = a.id; second = b.id } ∷ []) []) p).
    let found = if_pair (is_pair a b) a b p front in (zero, a, b, record { first = refl; second = refl; pair = found.0 }, found.1))
    (λ (back : StandsIn (locked_pairs (b ∷ all)) p).
    let found = pair_from (b ∷ all) p back in
    (suc found.0, found.1, found.2, record { first = found.3.first; second = found.3.second; pair = found.3.pair }, found.4))
    (stands_cases (cond (is_pair a b) (record { first = a.id; second = b.id } ∷ []) []) (locked_pairs (b ∷ all)) p stands)

pair_first : (a b : Access) (all : List Access) → is_pair a b ≡ true → StandsIn (locked_pairs (a ∷ b ∷ all)) (record { first = a.id; second = b.id })
pair_first a b all pair =
    let p : EventPair = record { first = a.id; second = b.id } in
    subst (λ test. StandsIn (cond test (p ∷ []) [] ++ locked_pairs (b ∷ all)) p) (sym pair) (zero, refl)

pair_at : (a b c d : Access) (all : List Access) → c ≡ a → d ≡ b → is_pair a b ≡ true → StandsIn (locked_pairs (c ∷ d ∷ all)) (record { first = a.id; second = b.id })
pair_at a b c d all one two pair =
    subst (λ x. StandsIn (locked_pairs (x ∷ d ∷ all)) (record { first = a.id; second = b.id })) (sym one)
    (subst (λ y. StandsIn (locked_pairs (a ∷ y ∷ all)) (record { first = a.id; second = b.id })) (sym two) (pair_first a b all pair))

-- a pair is listed
pub pair_to : (all : List Access) (m : ℕ) (a b : Access) → ArePair all m a b → StandsIn (locked_pairs all) (record { first = a.id; second = b.id })
pair_to [] m a b are = absurd (let first = are.first in cc)
pair_to (c ∷ []) zero a b are = absurd (let second = are.second in cc)
pair_to (c ∷ []) (suc m) a b are = absurd (let first = are.first in cc)
pair_to (c ∷ d ∷ all) zero a b are =
    pair_at a b c d all (let first = are.first in cc) (let second = are.second in cc) are.pair
pair_to (c ∷ d ∷ all) (suc m) a b are =
    stands_back (pair_with c (d ∷ all)) (locked_pairs (d ∷ all)) (record { first = a.id; second = b.id })
    (pair_to (d ∷ all) m a b (record { first = are.first; second = are.second; pair = are.pair }))

-- the pairs of all threads are those of each
pub pairs_from : (threads : List ThreadRun) (p : EventPair) → StandsIn (all_pairs threads) p → (t : ℕ) × StandsIn (thread_pairs (items_of threads t)) p
pairs_from [] p (i, here) = absurd cc
pairs_from (thread ∷ threads) p stands =
    ⊎_elim (λ (front : StandsIn (thread_pairs thread.items) p). (zero, front))
    (λ (back : StandsIn (all_pairs threads) p). let found = pairs_from threads p back in (suc found.0, found.1))
    (stands_cases (thread_pairs thread.items) (all_pairs threads) p stands)

pub pairs_to : (threads : List ThreadRun) (t : ℕ) (p : EventPair) → StandsIn (thread_pairs (items_of threads t)) p → StandsIn (all_pairs threads) p
pairs_to [] t p (i, here) = absurd cc
pairs_to (thread ∷ threads) zero p stands = stands_front (thread_pairs thread.items) (all_pairs threads) p stands
pairs_to (thread ∷ threads) (suc t) p stands = stands_back (thread_pairs thread.items) (all_pairs threads) p (pairs_to threads t p stands)

read_kind : (kind : AccessKind) → is_read kind ≡ true → kind ≡ Read
read_kind Read is = refl
read_kind Write is = absurd cc

write_kind : (kind : AccessKind) → is_write kind ≡ true → kind ≡ Write
write_kind Read is = absurd cc
write_kind Write is = refl

both_of : (a b : Bool) → (a && b) ≡ true → (a ≡ true) × (b ≡ true)
both_of true b h = (refl, h)
both_of false b h = absurd cc

event_there : (is : List Item) (n : ℕ) (a : Access) → slice_get (accesses is) n ≡ Some a → slice_get (events is) n ≡ Some (event a)
event_there is n a here = slice_get-map event (accesses is) n ∙ ap (option_map event) here

has_event : (P : Event → Type 0) (is : List Item) (n : ℕ) (a : Access) → slice_get (accesses is) n ≡ Some a → P (event a) → IsSomeAnd (slice_get (events is) n) P
has_event P is n a here holds_of = subst (λ o. IsSomeAnd o P) (sym (event_there is n a here)) holds_of

-- an access with the event
access_with : (P : Event → Type 0) (o : Option Access) → IsSomeAnd (option_map event o) P → (a : Access) × (o ≡ Some a) × P (event a)
access_with P None has = absurd has
access_with P (Some a) has = (a, refl, has)

event_access : (P : Event → Type 0) (is : List Item) (n : ℕ) → IsSomeAnd (slice_get (events is) n) P → (a : Access) × (slice_get (accesses is) n ≡ Some a) × P (event a)
event_access P is n has = access_with P (slice_get (accesses is) n) (subst (λ o. IsSomeAnd o P) (slice_get-map event (accesses is) n) has)

-- a pair that is listed is a locked pair
pub locked_from : (threads : List ThreadRun) → IsIndexed threads → (p : EventPair) → StandsIn (all_pairs threads) p → IsLockedPair threads p
locked_from threads indexed p stands =
    let thread = pairs_from threads p stands in
    let t = thread.0 in
    let is = items_of threads t in
    let found = pair_from (accesses is) p thread.1 in
    let m = found.0 in
    let a = found.1 in
    let b = found.2 in
    let are = found.3 in
    let tests = both_of (is_read a.kind && a.locked) (is_write b.kind && b.locked) are.pair in
    let one = both_of (is_read a.kind) a.locked tests.0 in
    let two = both_of (is_write b.kind) b.locked tests.1 in
    let next : suc m ≡ m + 1 = omega arith in
    let there : slice_get (accesses is) (m + 1) ≡ Some b = subst (λ n. slice_get (accesses is) n ≡ Some b) next are.second in
    let ids : p ≡ record { first = record { thread = t; index = m }; second = record { thread = t; index = m + 1 } } =
    found.4 ∙ ap {B = EventPair} (λ (id : EventId). record { first = id; second = b.id }) (indexed t m a are.first)
    ∙ ap {B = EventPair} (λ (id : EventId). record { first = record { thread = t; index = m }; second = id }) (indexed t (m + 1) b there) in
    let halves : LockedPairAt is m (m + 1) = (
      refl,
      has_event IsRead is m a are.first (read_kind a.kind one.0),
      has_event IsLocked is m a are.first one.1,
      has_event IsWrite is (m + 1) b there (write_kind b.kind two.0),
      has_event IsLocked is (m + 1) b there two.1,
    ) in
    subst (IsLockedPair threads) (sym ids) (refl, halves)

all_true : (ka kb : AccessKind) (la lb : Bool) → ka ≡ Read → la ≡ true → kb ≡ Write → lb ≡ true → ((is_read ka && la) && (is_write kb && lb)) ≡ true
all_true ka kb la lb read first write second =
    ap (λ k. (is_read k && la) && (is_write kb && lb)) read ∙ ap (λ l. l && (is_write kb && lb)) first ∙ ap (λ k. is_write k && lb) write ∙ second

-- a locked pair is listed
pub locked_to : (threads : List ThreadRun) → IsIndexed threads → (p : EventPair) → IsLockedPair threads p → StandsIn (all_pairs threads) p
locked_to threads indexed p (together, (next, read, locked_first, write, locked_second)) =
    let t = p.first.thread in
    let m = p.first.index in
    let n = p.second.index in
    let is = items_of threads t in
    let one = event_access IsRead is m read in
    let one_locked = event_access IsLocked is m locked_first in
    let two = event_access IsWrite is n write in
    let two_locked = event_access IsLocked is n locked_second in
    let a = one.0 in
    let b = two.0 in
    let lock_a : a.locked ≡ true = ap (λ (c : Access). c.locked) (same_some a one_locked.0 (slice_get (accesses is) m) one.1 one_locked.1) ∙ one_locked.2 in
    let lock_b : b.locked ≡ true = ap (λ (c : Access). c.locked) (same_some b two_locked.0 (slice_get (accesses is) n) two.1 two_locked.1) ∙ two_locked.2 in
    let step : n ≡ suc m = omega (arith, next) in
    let second : slice_get (accesses is) (suc m) ≡ Some b = subst (λ j. slice_get (accesses is) j ≡ Some b) step two.1 in
    let are : ArePair (accesses is) m a b = record { first = one.1; second = second; pair = all_true a.kind b.kind a.locked b.locked one.2 lock_a two.2 lock_b } in
    let id_b : b.id ≡ p.second = indexed t n b two.1 ∙ ap {B = EventId} (λ k. record { thread = k; index = n }) together in
    let ids : record { first = a.id; second = b.id } ≡ p =
    ap {B = EventPair} (λ (id : EventId). record { first = id; second = b.id }) (indexed t m a one.1)
    ∙ ap {B = EventPair} (λ (id : EventId). record { first = p.first; second = id }) id_b in
    pairs_to threads t p (subst (λ q. StandsIn (thread_pairs is) q) ids (pair_to (accesses is) m a b are))
