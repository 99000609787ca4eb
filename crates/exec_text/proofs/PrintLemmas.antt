-- The entries of reads, in the order in which they are printed.
use Rattle.std.proofs.Common.{◌≡◌, ℕ, zero, suc, ◌+◌, ◌<◌, Bool, true, false, cond, eqb, List, [], ◌∷◌, ◌++◌, map, length, get_or, Option, Some, slice_get, drop, refl, sym, ap, subst, ◌∙◌, append_assoc, eqb-true, eq-eqb, length-append, arith}
use Rattle.std.specs.Prelude.{◌&&◌}
use Rattle.std.specs.List.{flat_map, filter}
use Rattle.std.proofs.lemmas.List.{map-append, drop_more}
use Rattle.std.proofs.lemmas.List.Elements.{filter-append}
use Rattle.ev_graph.specs.declared.events.Access.{Access}
use Rattle.ev_graph.specs.declared.events.AccessKind.{AccessKind}
use Rattle.ev_graph.specs.declared.events.AccessKind.TheVariants.{Read, Write}
use Rattle.ev_graph.specs.declared.events.EventId.{EventId}
use Rattle.ev_graph.specs.declared.events.Item.{Item}
use Rattle.ev_graph.specs.declared.events.Item.TheVariants as item
use Rattle.ev_graph.specs.declared.execution.ReadFrom.{ReadFrom}
use Rattle.ev_graph.specs.declared.execution.Source.{Source}
use Rattle.ev_graph.specs.declared.execution.ThreadRun.{ThreadRun}
use Rattle.ev_graph.specs.Events.{accesses}
use Rattle.ev_graph.specs.Places.{IsDistinct}
use Rattle.ev_graph.specs.WellFormed.{all_accesses, is_read, read_ids}
use Rattle.exec_text.specs.Entries.{read_in, reads_in, entry_ids, StandFrom}
use Rattle.exec_text.specs.Explained.{item_line, same_event, sources_of, thread_line, thread_lines}

-- the test of ids
and-true : (p q : Bool) → (p && q) ≡ true → (p ≡ true) × (q ≡ true)
and-true true q both = (refl, both)
and-true false q both = absurd cc

true-and : (p q : Bool) → p ≡ true → q ≡ true → (p && q) ≡ true
true-and true q first second = second
true-and false q first second = absurd cc

same_event-true : (a b : EventId) → a ≡ b → same_event a b ≡ true
same_event-true a b same =
    true-and (eqb a.thread b.thread) (eqb a.index b.index) (eq-eqb _ _ (ap {B = ℕ} (λ (e : EventId). e.thread) same)) (eq-eqb _ _ (ap {B = ℕ} (λ (e : EventId). e.index) same))

same_event-same : (a b : EventId) → same_event a b ≡ true → a ≡ b
same_event-same a b same =
    let both = and-true (eqb a.thread b.thread) (eqb a.index b.index) same in
    ap {B = EventId} (λ (t : ℕ). record { thread = t; index = a.index }) (eqb-true a.thread b.thread both.0)
    ∙ ap {B = EventId} (λ (k : ℕ). record { thread = b.thread; index = k }) (eqb-true a.index b.index both.1)

rest-distinct : {A : Type 0} (x : A) (xs : List A) → IsDistinct (x ∷ xs) → IsDistinct xs
rest-distinct x xs distinct = λ i j y at_i at_j. let same : suc i ≡ suc j = distinct (suc i) (suc j) y at_i at_j in omega (arith, same)

-- of entries for different reads, the one at a place is found by its read
pub sources_at : (rf : List ReadFrom) (i : ℕ) (id : EventId) (entry : ReadFrom) → IsDistinct (entry_ids rf) → slice_get (entry_ids rf) i ≡ Some id → entry ≡ get_or rf i entry
    → sources_of rf id ≡ entry.bytes
sources_at [] i id entry distinct here is = absurd cc
sources_at (e ∷ rf) zero id entry distinct here is =
    let head : e.read ≡ id = cc in
    ap {B = List Source} (λ (b : Bool). cond b e.bytes (sources_of rf id)) (same_event-true e.read id head) ∙ ap {B = List Source} (λ (r : ReadFrom). r.bytes) (sym is)
sources_at (e ∷ rf) (suc i) id entry distinct here is = by (same_event e.read id) refl (sources_at rf i id entry (rest-distinct e.read (entry_ids rf) distinct) here is)
  where
    by : (b : Bool) → same_event e.read id ≡ b → sources_of rf id ≡ entry.bytes → cond (same_event e.read id) e.bytes (sources_of rf id) ≡ entry.bytes
    by true same found =
        let first : Some e.read ≡ Some id = ap {B = Option EventId} (λ (x : EventId). Some x) (same_event-same e.read id same) in
        let place : 0 ≡ suc i = distinct 0 (suc i) id first here in absurd (omega (arith, place))
    by false same found = ap {B = List Source} (λ (b : Bool). cond b e.bytes (sources_of rf id)) same ∙ found

-- a read has an entry
pub has_entry : (rf : List ReadFrom) (i : ℕ) (id : EventId) → slice_get (entry_ids rf) i ≡ Some id → i < length rf
has_entry [] i id here = absurd cc
has_entry (e ∷ rf) zero id here = omega arith
has_entry (e ∷ rf) (suc i) id here = let rest = has_entry rf i id here in omega (arith, rest)

-- entries of a front, and of what is behind it
pub stand_front : (all : List EventId) (first : ℕ) (xs ys : List EventId) → StandFrom all first (xs ++ ys) → StandFrom all first xs
stand_front all first [] ys stand = tt
stand_front all first (x ∷ xs) ys stand = (stand.0, stand_front all (first + 1) xs ys stand.1)

pub stand_rest : (all : List EventId) (first next : ℕ) (xs ys : List EventId) → next ≡ first + length xs → StandFrom all first (xs ++ ys) → StandFrom all next ys
stand_rest all first next [] ys is stand = let From : ℕ → Type 0 = λ n. StandFrom all n ys in subst From (omega arith) stand
stand_rest all first next (x ∷ xs) ys is stand = stand_rest all (first + 1) next xs ys (omega arith) stand.1

get-behind : (front ids : List EventId) (id : EventId) → slice_get (front ++ id ∷ ids) (length front) ≡ Some id
get-behind [] ids id = refl
get-behind (x ∷ front) ids id = get-behind front ids id

stand-in : (ids front all : List EventId) (n : ℕ) → all ≡ front ++ ids → n ≡ length front → StandFrom all n ids
stand-in [] front all n is at = tt
stand-in (id ∷ ids) front all n is at = (
  ap {B = Option EventId} (λ (k : ℕ). slice_get all k) at ∙ ap {B = Option EventId} (λ (xs : List EventId). slice_get xs (length front)) is ∙ get-behind front ids id,
  stand-in ids (front ++ id ∷ []) all (n + 1) (is ∙ sym (append_assoc front (id ∷ []) ids)) (omega (arith, at, length-append front (id ∷ []))),
)

-- a list stands in itself
pub stand_all : (all ids : List EventId) → all ≡ ids → StandFrom all 0 ids
stand_all all ids is = stand-in ids [] all 0 is refl

reads_in-accesses : (items : List Item) → reads_in items ≡ map (λ (a : Access). a.id) (filter (λ (a : Access). is_read a.kind) (accesses items))
reads_in-accesses [] = refl
reads_in-accesses (item.Access a ∷ items) = by a.kind (reads_in-accesses items)
  where
    others : List Access
    others = filter (λ (b : Access). is_read b.kind) (accesses items)

    by : (k : AccessKind) → reads_in items ≡ map (λ (b : Access). b.id) others → read_in k a.id ++ reads_in items ≡ map (λ (b : Access). b.id) (cond (is_read k) (a ∷ others) others)
    by Read rest = ap (λ (ids : List EventId). a.id ∷ ids) rest
    by Write rest = rest
reads_in-accesses (item.Fence f ∷ items) = reads_in-accesses items
reads_in-accesses (item.Input v ∷ items) = reads_in-accesses items
reads_in-accesses (item.Output v ∷ items) = reads_in-accesses items

-- the reads of all threads, thread by thread
pub read_ids-threads : (threads : List ThreadRun) → read_ids threads ≡ flat_map (λ (t : ThreadRun). reads_in t.items) threads
read_ids-threads [] = refl
read_ids-threads (t ∷ threads) =
    let test = λ (a : Access). is_read a.kind in
    let name = λ (a : Access). a.id in
    ap (λ (list : List Access). map name list) (filter-append test (accesses t.items) (all_accesses threads)) ∙ map-append name (filter test (accesses t.items)) (filter test (all_accesses threads))
    ∙ ap (λ (ids : List EventId). ids ++ read_ids threads) (sym (reads_in-accesses t.items)) ∙ ap (λ (ids : List EventId). reads_in t.items ++ ids) (read_ids-threads threads)

abbrev thread_reads : List ThreadRun → List EventId
thread_reads threads = flat_map (λ (t : ThreadRun). reads_in t.items) threads

-- the threads from this one on
pub this_thread : (threads : List ThreadRun) (i : ℕ) (t : ThreadRun) → i < length threads → t ≡ get_or threads i t → drop i threads ≡ t ∷ drop (i + 1) threads
this_thread threads i t here is = drop_more threads i t here ∙ ap {B = List ThreadRun} (λ (u : ThreadRun). u ∷ drop (i + 1) threads) (sym is)

-- its entries, and those of the threads behind it
pub these_entries : (all : List EventId) (next : ℕ) (threads : List ThreadRun) (i : ℕ) (t : ThreadRun) → i < length threads → t ≡ get_or threads i t
    → StandFrom all next (thread_reads (drop i threads)) → StandFrom all next (reads_in t.items)
these_entries all next threads i t here is stand =
    let Stand : List ThreadRun → Type 0 = λ left. StandFrom all next (thread_reads left) in
    stand_front all next (reads_in t.items) (thread_reads (drop (i + 1) threads)) (subst Stand (this_thread threads i t here is) stand)

pub entries_behind : (all : List EventId) (next after : ℕ) (threads : List ThreadRun) (i : ℕ) (t : ThreadRun) → i < length threads → t ≡ get_or threads i t
    → after ≡ next + length (reads_in t.items) → StandFrom all next (thread_reads (drop i threads)) → StandFrom all after (thread_reads (drop (i + 1) threads))
entries_behind all next after threads i t here is counted stand =
    let Stand : List ThreadRun → Type 0 = λ left. StandFrom all next (thread_reads left) in
    stand_rest all next after (reads_in t.items) (thread_reads (drop (i + 1) threads)) counted (subst Stand (this_thread threads i t here is) stand)

-- one thread more is printed
pub thread_printed : (rf : List ReadFrom) (old new whole : List ℕ) (threads : List ThreadRun) (i : ℕ) (t : ThreadRun) → i < length threads → t ≡ get_or threads i t
    → new ≡ old ++ (thread_line i t ++ flat_map (item_line rf) t.items) → old ++ thread_lines rf i (drop i threads) ≡ whole → new ++ thread_lines rf (i + 1) (drop (i + 1) threads) ≡ whole
thread_printed rf old new whole threads i t here is grown before =
    let block = thread_line i t ++ flat_map (item_line rf) t.items in
    let behind = thread_lines rf (i + 1) (drop (i + 1) threads) in
    ap {B = List ℕ} (λ (front : List ℕ). front ++ behind) grown ∙ append_assoc old block behind
    ∙ ap {B = List ℕ} (λ (left : List ThreadRun). old ++ thread_lines rf i left) (sym (this_thread threads i t here is)) ∙ before
