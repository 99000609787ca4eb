-- Two executions whose threads have the same traces have the same events, and one is well formed where the other is.
use Rattle.std.proofs.Common.{◌≡◌, ℕ, suc, ◌+◌, ◌-◌, ◌<◌, Bool, true, false, List, [], ◌∷◌, ◌++◌, length, map, slice_get, Option, Some, None, inl, inr, arith, sym, ◌∙◌, ap, refl, subst}
use Rattle.std.specs.Prelude.{filter, cond, IsSomeAnd}
use Rattle.std.specs.Option.{option_map}
use Rattle.std.proofs.lemmas.Option.{slice_get-map, slice_get_within}
use Rattle.ev_graph.specs.declared.events.Access.{Access}
use Rattle.ev_graph.specs.declared.events.AccessKind.{AccessKind}
use Rattle.ev_graph.specs.declared.events.AccessKind.TheVariants.{Write}
use Rattle.ev_graph.specs.declared.events.EventId.{EventId}
use Rattle.ev_graph.specs.declared.events.Item.{Item}
use Rattle.ev_graph.specs.declared.events.Item.TheVariants as item
use Rattle.ev_graph.specs.declared.execution.EventPair.{EventPair}
use Rattle.ev_graph.specs.declared.execution.Execution.{Execution}
use Rattle.ev_graph.specs.declared.execution.ReadFrom.{ReadFrom}
use Rattle.ev_graph.specs.declared.execution.Source.{Source}
use Rattle.ev_graph.specs.declared.execution.Source.TheVariants.{Start, From}
use Rattle.ev_graph.specs.declared.execution.ThreadRun.{ThreadRun}
use Rattle.ev_graph.specs.Memory.{Cell}
use Rattle.ev_graph.specs.Places.{StandsIn, HasEachOnce}
use Rattle.ev_graph.specs.Start.{start_at}
use Rattle.ev_graph.specs.Events.{event, events, accesses, items_of, IsAccessOf, IsRead, IsWrite, IsLocked, Covers, LockedPairAt}
use Rattle.ev_graph.specs.WellFormed.{is_read, is_write, all_accesses, write_ids, IsIndexed, HasEntries, IsLockedPair, HasLockedPairs, byte_of, Gives, HasSources, WellFormed}
use Rattle.ev_graph.specs.FinalByte.{Writes, GivesByte, LastByte, HasNoByte, IsFinalByte}
use Rattle.behavior.specs.Seen.{trace}

-- an access without the address of its instruction
abbrev pub unplaced : Access → Access
unplaced a = record a { place = 0 }

accesses-trace : (xs : List Item) → accesses (trace xs) ≡ map unplaced (accesses xs)
accesses-trace [] = refl
accesses-trace (item.Access a ∷ xs) = ap (λ l. unplaced a ∷ l) (accesses-trace xs)
accesses-trace (item.Fence f ∷ xs) = accesses-trace xs
accesses-trace (item.Input t ∷ xs) = accesses-trace xs
accesses-trace (item.Output t ∷ xs) = accesses-trace xs

same_accesses : (xs ys : List Item) → trace xs ≡ trace ys → map unplaced (accesses xs) ≡ map unplaced (accesses ys)
same_accesses xs ys same = sym (accesses-trace xs) ∙ ap accesses same ∙ accesses-trace ys

event-unplaced : (l : List Access) → map event (map unplaced l) ≡ map event l
event-unplaced [] = refl
event-unplaced (a ∷ l) = ap (λ es. event a ∷ es) (event-unplaced l)

-- the same trace has the same events
pub same_events : (xs ys : List Item) → trace xs ≡ trace ys → events xs ≡ events ys
same_events xs ys same = sym (event-unplaced (accesses xs)) ∙ ap (map event) (same_accesses xs ys same) ∙ event-unplaced (accesses ys)

some_of : {A B : Type 0} (f : A → B) (o : Option A) (v : B) → option_map f o ≡ Some v → (a : A) × (o ≡ Some a) × (f a ≡ v)
some_of f None v e = absurd (none_some e)
  where
    none_some : {B : Type 0} {v : B} → None ≡ Some v → ⊥
    none_some e = absurd cc
some_of f (Some a) v e = (a, refl, some_same e)
  where
    some_same : {B : Type 0} {u v : B} → Some u ≡ Some v → u ≡ v
    some_same e = cc

-- the threads have the same traces
abbrev pub AreAlike : List ThreadRun → List ThreadRun → Type 0
AreAlike xs ys = (t : ℕ) → trace (items_of xs t) ≡ trace (items_of ys t)

pub alike_sym : (xs ys : List ThreadRun) → AreAlike xs ys → AreAlike ys xs
alike_sym xs ys alike = λ t. sym (alike t)

-- so each access of the one is one of the other, but for the address of its instruction
pub same_access : (xs ys : List ThreadRun) → AreAlike xs ys → (id : EventId) (a : Access) → IsAccessOf xs id a → (b : Access) × IsAccessOf ys id b × (unplaced b ≡ unplaced a)
same_access xs ys alike id a here =
    let X = accesses (items_of xs id.thread) in
    let Y = accesses (items_of ys id.thread) in
    let there : option_map unplaced (slice_get Y id.index) ≡ Some (unplaced a) =
    sym (slice_get-map unplaced Y id.index) ∙ ap (λ l. slice_get l id.index) (sym (same_accesses (items_of xs id.thread) (items_of ys id.thread) (alike id.thread)))
    ∙ slice_get-map unplaced X id.index ∙ ap (option_map unplaced) here in
    some_of unplaced (slice_get Y id.index) (unplaced a) there

-- ---- the ids of reads and writes

map-join : {A B : Type 0} (f : A → B) (xs ys : List A) → map f (xs ++ ys) ≡ map f xs ++ map f ys
map-join f [] ys = refl
map-join f (x ∷ xs) ys = ap (λ l. f x ∷ l) (map-join f xs ys)

all_same : (xs ys : List ThreadRun) → length xs ≡ length ys → AreAlike xs ys → map unplaced (all_accesses xs) ≡ map unplaced (all_accesses ys)
all_same [] [] count alike = refl
all_same [] (y ∷ ys) count alike = absurd (omega (arith, count))
all_same (x ∷ xs) [] count alike = absurd (omega (arith, count))
all_same (x ∷ xs) (y ∷ ys) count alike =
    let rest = all_same xs ys (omega (arith, count)) (λ t. alike (suc t)) in
    map-join unplaced (accesses x.items) (all_accesses xs) ∙ ap (λ l. l ++ map unplaced (all_accesses xs)) (same_accesses x.items y.items (alike 0))
    ∙ ap (λ l. map unplaced (accesses y.items) ++ l) rest ∙ sym (map-join unplaced (accesses y.items) (all_accesses ys))

-- the ids of the accesses of some kinds
abbrev ids_of : (AccessKind → Bool) → List Access → List EventId
ids_of p l = map (λ a. a.id) (filter (λ a. p a.kind) l)

ids-cons : (p : AccessKind → Bool) (a : Access) (xs ys : List Access) → ids_of p xs ≡ ids_of p ys → ids_of p (unplaced a ∷ xs) ≡ ids_of p (a ∷ ys)
ids-cons p a xs ys rest = by_test (p a.kind)
  where
    by_test : (b : Bool) → map (λ (c : Access). c.id) (cond b (unplaced a ∷ filter (λ c. p c.kind) xs) (filter (λ c. p c.kind) xs))
        ≡ map (λ (c : Access). c.id) (cond b (a ∷ filter (λ c. p c.kind) ys) (filter (λ c. p c.kind) ys))
    by_test true = ap (λ is. a.id ∷ is) rest
    by_test false = rest

ids-unplaced : (p : AccessKind → Bool) (l : List Access) → ids_of p (map unplaced l) ≡ ids_of p l
ids-unplaced p [] = refl
ids-unplaced p (a ∷ l) = ids-cons p a (map unplaced l) l (ids-unplaced p l)

same_ids : (p : AccessKind → Bool) (xs ys : List ThreadRun) → length xs ≡ length ys → AreAlike xs ys → ids_of p (all_accesses xs) ≡ ids_of p (all_accesses ys)
same_ids p xs ys count alike =
    sym (ids-unplaced p (all_accesses xs)) ∙ ap (ids_of p) (all_same xs ys count alike) ∙ ids-unplaced p (all_accesses ys)

-- ---- being well formed

same_pair : (xs ys : List Item) (m n : ℕ) → events xs ≡ events ys → LockedPairAt xs m n → LockedPairAt ys m n
same_pair xs ys m n same pair = (
  pair.0,
  subst (λ es. IsSomeAnd (slice_get es m) IsRead) same pair.1,
  subst (λ es. IsSomeAnd (slice_get es m) IsLocked) same pair.2,
  subst (λ es. IsSomeAnd (slice_get es n) IsWrite) same pair.3,
  subst (λ es. IsSomeAnd (slice_get es n) IsLocked) same pair.4,
)

same_locked : (xs ys : List ThreadRun) → AreAlike xs ys → (p : EventPair) → IsLockedPair xs p → IsLockedPair ys p
same_locked xs ys alike p pair =
    (pair.0, same_pair (items_of xs p.first.thread) (items_of ys p.first.thread) p.first.index p.second.index (same_events (items_of xs p.first.thread) (items_of ys p.first.thread) (alike p.first.thread)) pair.1)

-- what the sources of y need: where a byte of an access comes from the start of x, y starts with it
abbrev pub StartsAlike : (ℕ → Option ℕ) → (ℕ → Option ℕ) → List ThreadRun → Type 0
StartsAlike start start' ys = (t n : ℕ) (b : Access) (k byte : ℕ) → slice_get (accesses (items_of ys t)) n ≡ Some b → k < b.size
    → start (b.address + k) ≡ Some byte → start' (b.address + k) ≡ Some byte

-- the write c gives byte k of the read r
abbrev GivesByteOf : ℕ → Access → Access → Type 0
GivesByteOf k c r = (c.kind ≡ Write) × Covers (event c) (r.address + k) × (byte_of c.value (r.address + k - c.address) ≡ byte_of r.value k)

same_giving : (k : ℕ) (a a' b b' : Access) → unplaced b ≡ unplaced a → unplaced b' ≡ unplaced a' → GivesByteOf k a' a → GivesByteOf k b' b
same_giving k a a' b b' read write gives =
    subst (λ c. GivesByteOf k c (unplaced b)) (sym write) (subst (λ r. GivesByteOf k (unplaced a') r) (sym read) gives)

same_source : (start start' : ℕ → Option ℕ) (xs ys : List ThreadRun) → AreAlike xs ys → StartsAlike start start' ys
    → (id : EventId) (a b : Access) (k : ℕ) (s : Source) → IsAccessOf ys id b → k < b.size → unplaced b ≡ unplaced a → Gives start xs a k s → Gives start' ys b k s
same_source start start' xs ys alike starts id a b k Start at low same gives =
    starts id.thread id.index b k (byte_of b.value k) at low (subst (λ (c : Access). start (c.address + k) ≡ Some (byte_of c.value k)) (sym same) gives)
same_source start start' xs ys alike starts id a b k (From w) at low same (a', found, kind, covers, byte) =
    let other = same_access xs ys alike w a' found in
    let given = same_giving k a a' b other.0 same other.2 (kind, covers, byte) in
    (other.0, other.1, given.0, given.1, given.2)

stands_same : {A : Type 0} (xs ys : List A) (x : A) → xs ≡ ys → StandsIn xs x → StandsIn ys x
stands_same xs ys x same there = subst (λ l. StandsIn l x) same there

same_sources : (start start' : ℕ → Option ℕ) (x y : Execution) → AreAlike x.threads y.threads → StartsAlike start start' y.threads → y.rf ≡ x.rf
    → HasEntries y → HasSources start x → HasSources start' y
same_sources start start' x y alike starts rf entries sources e b k s listed found here =
    let other = same_access y.threads x.threads (alike_sym x.threads y.threads alike) e.read b found in
    let long = entries.sizes e b listed found in
    let within = slice_get_within e.bytes k s here in
    same_source start start' x.threads y.threads alike starts e.read other.0 b k s found (omega (arith, within, long)) (sym other.2)
    (sources e other.0 k s (stands_same y.rf x.rf e rf listed) other.1 here)

same_indexed : (xs ys : List ThreadRun) → AreAlike xs ys → IsIndexed xs → IsIndexed ys
same_indexed xs ys alike indexed t n b at =
    let other = same_access ys xs (alike_sym xs ys alike) (record { thread = t; index = n }) b at in
    sym (ap (λ (c : Access). c.id) other.2) ∙ indexed t n other.0 other.1

same_entries : (x y : Execution) → length x.threads ≡ length y.threads → AreAlike x.threads y.threads → y.rf ≡ x.rf → HasEntries x → HasEntries y
same_entries x y count alike rf entries = record {
  reads = ap (map (λ (e : ReadFrom). e.read)) rf ∙ entries.reads ∙ same_ids is_read x.threads y.threads count alike;
  sizes = λ e b listed found.
      let other = same_access y.threads x.threads (alike_sym x.threads y.threads alike) e.read b found in
      entries.sizes e other.0 (stands_same y.rf x.rf e rf listed) other.1 ∙ ap (λ (c : Access). c.size) other.2;
}

same_pairs : (x y : Execution) → AreAlike x.threads y.threads → y.rmw ≡ x.rmw → HasLockedPairs x → HasLockedPairs y
same_pairs x y alike rmw pairs p =
    let here = pairs p in (
      (λ there. same_locked x.threads y.threads alike p (here.0 (stands_same y.rmw x.rmw p rmw there))),
      (λ pair. stands_same x.rmw y.rmw p (sym rmw) (here.1 (same_locked y.threads x.threads (alike_sym x.threads y.threads alike) p pair))),
    )

-- y is well formed where x is
pub same_form : (cells cells' : ℕ → Option Cell) (x y : Execution) → length x.threads ≡ length y.threads → AreAlike x.threads y.threads
    → y.rf ≡ x.rf → y.co ≡ x.co → y.rmw ≡ x.rmw → StartsAlike (start_at cells x.stacks) (start_at cells' y.stacks) y.threads
    → WellFormed cells x → WellFormed cells' y
same_form cells cells' x y count alike rf co rmw starts form =
    let entries = same_entries x y count alike rf form.shaped.entries in
    record {
      shaped = record {
        indexed = same_indexed x.threads y.threads alike form.shaped.indexed;
        entries = entries;
        pairs = same_pairs x y alike rmw form.shaped.pairs;
      };
      sources = same_sources (start_at cells x.stacks) (start_at cells' y.stacks) x y alike starts rf entries form.sources;
      co = subst (λ l. HasEachOnce l (write_ids y.threads)) (sym co)
          (subst (λ l. HasEachOnce x.co l) (same_ids is_write x.threads y.threads count alike) form.co);
    }

-- ---- the final byte

same_byte : (xs ys : List ThreadRun) → AreAlike xs ys → (w : EventId) (n byte : ℕ) → GivesByte xs w n byte → GivesByte ys w n byte
same_byte xs ys alike w n byte (a, found, writes) =
    let other = same_access xs ys alike w a found in
    (other.0, other.1, subst (λ (c : Access). Writes c n byte) (sym other.2) writes)

same_last : (xs ys : List ThreadRun) (co co' : List EventId) → AreAlike xs ys → co' ≡ co → (n byte : ℕ) → LastByte xs co n byte → LastByte ys co' n byte
same_last xs ys co co' alike same n byte last = record {
  i = last.i;
  w = last.w;
  here = subst (λ l. slice_get l last.i ≡ Some last.w) (sym same) last.here;
  gives = same_byte xs ys alike last.w n byte last.gives;
  last = λ j v other order here gives. last.last j v other order (subst (λ l. slice_get l j ≡ Some v) same here)
      (same_byte ys xs (alike_sym xs ys alike) v n other gives);
}

same_none : (xs ys : List ThreadRun) (co co' : List EventId) → AreAlike xs ys → co' ≡ co → (n : ℕ) → HasNoByte xs co n → HasNoByte ys co' n
same_none xs ys co co' alike same n none j v byte here gives =
    none j v byte (subst (λ l. slice_get l j ≡ Some v) same here) (same_byte ys xs (alike_sym xs ys alike) v n byte gives)

-- y ends with the byte with which x ends, where they start with the same
pub same_final : (cells cells' : ℕ → Option Cell) (x y : Execution) → AreAlike x.threads y.threads → y.co ≡ x.co → (n : ℕ) (found : Option ℕ)
    → start_at cells' y.stacks n ≡ start_at cells x.stacks n → IsFinalByte cells x n found → IsFinalByte cells' y n found
same_final cells cells' x y alike co n found start (inl (byte, last, is)) = inl (byte, same_last x.threads y.threads x.co y.co alike co n byte last, is)
same_final cells cells' x y alike co n found start (inr (none, is)) = inr (same_none x.threads y.threads x.co y.co alike co n none, is ∙ sym start)
