-- The ids of the reads and writes of an execution whose ids are right.
use Rattle.std.proofs.Common.{◌≡◌, ◌≤◌, ◌+◌, ℕ, zero, suc, true, List, [], ◌∷◌, ◌++◌, map, filter, inl, inr, Some, refl, sym, ◌∙◌, subst, ap, arith}
use Rattle.std.specs.List.{slice_get}
use Rattle.std.specs.Option.{option_map}
use Rattle.std.proofs.lemmas.Option.{slice_get-map}
use Rattle.ev_graph.specs.declared.events.Access.{Access}
use Rattle.ev_graph.specs.declared.events.AccessKind.{AccessKind}
use Rattle.ev_graph.specs.declared.events.AccessKind.TheVariants.{Read, Write}
use Rattle.ev_graph.specs.declared.events.EventId.{EventId}
use Rattle.ev_graph.specs.declared.execution.Execution.{Execution}
use Rattle.ev_graph.specs.declared.execution.ReadFrom.{ReadFrom}
use Rattle.ev_graph.specs.declared.execution.ThreadRun.{ThreadRun}
use Rattle.ev_graph.specs.Places.{StandsIn, IsDistinct}
use Rattle.ev_graph.specs.Events.{accesses, items_of, IsAccessOf}
use Rattle.ev_graph.specs.WellFormed.{is_read, is_write, all_accesses, read_ids, write_ids, IsIndexed, IsShaped}
use Rattle.ev_graph.proofs.Members.{stands_front, stands_back, stands_cases, stands_map, stands_image, stands_filter, stands_filtered, distinct_join, distinct_filter}

-- an access of a thread is one of all accesses
pub in_all : (threads : List ThreadRun) (t n : ℕ) (a : Access) → slice_get (accesses (items_of threads t)) n ≡ Some a → StandsIn (all_accesses threads) a
in_all [] t n a here = absurd cc
in_all (thread ∷ threads) zero n a here = stands_front (accesses thread.items) (all_accesses threads) a (n, here)
in_all (thread ∷ threads) (suc t) n a here = stands_back (accesses thread.items) (all_accesses threads) a (in_all threads t n a here)

-- one of all accesses is an access of a thread
pub from_all : (threads : List ThreadRun) (a : Access) → StandsIn (all_accesses threads) a → (t : ℕ) × (n : ℕ) × (slice_get (accesses (items_of threads t)) n ≡ Some a)
from_all [] a (i, here) = absurd cc
from_all (thread ∷ threads) a stands = elim (stands_cases (accesses thread.items) (all_accesses threads) a stands) [
  | inl first ↦ (zero, first.0, first.1)
  | inr rest ↦ let found = from_all threads a rest in (suc found.0, found.1, found.2)
]

write_kind : (kind : AccessKind) → is_write kind ≡ true → kind ≡ Write
write_kind Read is = absurd cc
write_kind Write is = refl

-- the id of a write is among those of the writes
pub write_id_in : (threads : List ThreadRun) → IsIndexed threads → (w : EventId) (a : Access) → IsAccessOf threads w a → a.kind ≡ Write → StandsIn (write_ids threads) w
write_id_in threads indexed w a found write =
    let id : a.id ≡ w = indexed w.thread w.index a found in
    let stands = stands_filter (λ (b : Access). is_write b.kind) (all_accesses threads) a (in_all threads w.thread w.index a found) (ap is_write write) in
    let Stands : EventId → Type 0 = λ v. StandsIn (write_ids threads) v in
    subst Stands id (stands_map (λ (b : Access). b.id) (filter (λ (b : Access). is_write b.kind) (all_accesses threads)) a stands)

-- an id among those of the writes is the id of a write
pub write_id_from : (threads : List ThreadRun) → IsIndexed threads → (w : EventId) → StandsIn (write_ids threads) w → (a : Access) × IsAccessOf threads w a × (a.kind ≡ Write)
write_id_from threads indexed w stands =
    let image = stands_image (λ (b : Access). b.id) (filter (λ (b : Access). is_write b.kind) (all_accesses threads)) w stands in
    let write = stands_filtered (λ (b : Access). is_write b.kind) (all_accesses threads) image.0 image.1 in
    let place = from_all threads image.0 write.0 in
    let id : image.0.id ≡ record { thread = place.0; index = place.1 } = indexed place.0 place.1 image.0 place.2 in
    let Found : EventId → Type 0 = λ v. IsAccessOf threads v image.0 in
    (image.0, subst Found (sym id ∙ image.2) place.2, write_kind image.0.kind write.1)

-- each access has the id of its number, and of its thread counted from s
abbrev IsIndexedFrom : ℕ → List ThreadRun → Type 0
IsIndexedFrom s threads = (t n : ℕ) (a : Access) → slice_get (accesses (items_of threads t)) n ≡ Some a → a.id ≡ record { thread = s + t; index = n }

-- what stands at a place of a list of ids is the id of what stands there
image_at : (all : List Access) (i : ℕ) (id : EventId) → slice_get (map (λ (a : Access). a.id) all) i ≡ Some id
    → (a : Access) × (slice_get all i ≡ Some a) × (a.id ≡ id)
image_at [] i id here = absurd cc
image_at (a ∷ all) zero id here = (a, refl, cc)
image_at (a ∷ all) (suc i) id here = image_at all i id here

-- within a thread no id stands twice
thread_distinct : (all : List Access) (t : ℕ) → ((n : ℕ) (a : Access) → slice_get all n ≡ Some a → a.id ≡ record { thread = t; index = n })
    → IsDistinct (map (λ (a : Access). a.id) all)
thread_distinct all t indexed i j id first second =
    let one = image_at all i id first in
    let two = image_at all j id second in
    let at_i = indexed i one.0 one.1 in
    let at_j = indexed j two.0 two.1 in
    let same : one.0.id ≡ two.0.id = one.2 ∙ sym two.2 in
    ap {B = ℕ} (λ (v : EventId). v.index) (sym at_i ∙ same ∙ at_j)

-- the thread of an id that stands among those of all accesses
id_thread : (s : ℕ) (threads : List ThreadRun) → IsIndexedFrom s threads → (id : EventId) → StandsIn (map (λ (a : Access). a.id) (all_accesses threads)) id → s ≤ id.thread
id_thread s threads indexed id stands =
    let image = stands_image (λ (a : Access). a.id) (all_accesses threads) id stands in
    let place = from_all threads image.0 image.1 in
    let is : s + place.0 ≡ id.thread = ap {B = ℕ} (λ (v : EventId). v.thread) (sym (indexed place.0 place.1 image.0 place.2) ∙ image.2) in
    omega arith

map-join : {A B : Type 0} (f : A → B) (xs ys : List A) → map f (xs ++ ys) ≡ map f xs ++ map f ys
map-join f [] ys = refl
map-join f (x ∷ xs) ys = ap (λ rest. f x ∷ rest) (map-join f xs ys)

-- no id stands twice among those of all accesses
all_distinct : (s : ℕ) (threads : List ThreadRun) → IsIndexedFrom s threads → IsDistinct (map (λ (a : Access). a.id) (all_accesses threads))
all_distinct s [] indexed = λ i j id first second. absurd cc
all_distinct s (thread ∷ threads) indexed =
    let first = thread_distinct (accesses thread.items) s (λ n a here. let e : s + 0 ≡ s = omega arith in rw e at (indexed 0 n a here)) in
    let later : IsIndexedFrom (suc s) threads = λ t n a here. let e : s + suc t ≡ suc s + t = omega arith in rw e at (indexed (suc t) n a here) in
    let apart = λ (id : EventId) (left : StandsIn (map (λ (a : Access). a.id) (accesses thread.items)) id) (right : StandsIn (map (λ (a : Access). a.id) (all_accesses threads)) id).
    let image = image_at (accesses thread.items) left.0 id left.1 in
    let is : s + 0 ≡ id.thread = ap {B = ℕ} (λ (v : EventId). v.thread) (sym (indexed 0 left.0 image.0 image.1) ∙ image.2) in
    let bound = id_thread (suc s) threads later id right in
    let none : ⊥ = omega arith in
    none in
    let Distinct : List EventId → Type 0 = λ ids. IsDistinct ids in
    subst Distinct (sym (map-join (λ (a : Access). a.id) (accesses thread.items) (all_accesses threads)))
    (distinct_join _ _ first (all_distinct (suc s) threads later) apart)

-- no id stands twice among those of the reads
pub reads_distinct : (threads : List ThreadRun) → IsIndexed threads → IsDistinct (read_ids threads)
reads_distinct threads indexed =
    distinct_filter (λ (a : Access). a.id) (λ (a : Access). is_read a.kind) (all_accesses threads)
    (all_distinct 0 threads (λ t n a here. let e : t ≡ 0 + t = omega arith in rw (← e) (indexed t n a here)))

-- a read has one entry
pub one_entry : (x : Execution) → IsShaped x → (e other : ReadFrom) → StandsIn x.rf e → StandsIn x.rf other → e.read ≡ other.read → e ≡ other
one_entry x shaped e other (i, here) (j, there) same =
    let read = λ (entry : ReadFrom). entry.read in
    let first : slice_get (map read x.rf) i ≡ Some e.read = slice_get-map read x.rf i ∙ ap (option_map read) here in
    let second : slice_get (map read x.rf) j ≡ Some other.read = slice_get-map read x.rf j ∙ ap (option_map read) there in
    let Distinct : List EventId → Type 0 = λ ids. IsDistinct ids in
    let distinct = subst Distinct (sym shaped.entries.reads) (reads_distinct x.threads shaped.indexed) in
    let place : i ≡ j = distinct i j e.read first (second ∙ ap Some (sym same)) in
    let moved : slice_get x.rf j ≡ Some e = rw (← place) here in
    cc
