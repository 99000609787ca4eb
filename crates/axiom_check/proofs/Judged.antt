-- What is known of an execution that can be judged, and what its lanes have.
use Rattle.std.proofs.Common.{◌≡◌, ◌<◌, ℕ, Bool, true, false, List, [], length, filter, Some, ◌⊎◌, inl, inr, sym, subst}
use Rattle.std.specs.List.{slice_get}
use Rattle.std.proofs.lemmas.Bool.{cases_lt}
use Rattle.std.proofs.lemmas.Option.{slice_get_past}
use Rattle.ev_graph.specs.declared.events.Access.{Access}
use Rattle.ev_graph.specs.declared.events.AccessKind.TheVariants.{Write}
use Rattle.ev_graph.specs.declared.events.EventId.{EventId}
use Rattle.ev_graph.specs.declared.execution.Execution.{Execution}
use Rattle.ev_graph.specs.declared.execution.ReadFrom.{ReadFrom}
use Rattle.ev_graph.specs.declared.execution.Source.TheVariants.{Start, From}
use Rattle.ev_graph.specs.declared.execution.ThreadRun.{ThreadRun}
use Rattle.ev_graph.specs.Events.{accesses, items_of, IsAccessOf}
use Rattle.ev_graph.specs.Places.{StandsIn}
use Rattle.ev_graph.specs.WellFormed.{all_accesses, is_read, IsIndexed}
use Rattle.ev_graph.proofs.Ids.{in_all, from_all, write_id_in, write_id_from}
use Rattle.ev_graph.proofs.Members.{stands_map, stands_image, stands_filtered}
use Rattle.ev_graph.proofs.Threads.{items_of_none}
use Rattle.order_models.specs.declared.doors.Door.{Door}
use Rattle.topo.specs.declared.edge.Edge.{Edge}
use Rattle.axiom_check.specs.declared.lanes.Slot.{Slot}
use Rattle.axiom_check.specs.Gains.{Gains, Below}
use Rattle.axiom_check.specs.Numbers.{IsNumbered}
use Rattle.axiom_check.specs.Bytes.{AreSourcesKnown, IsCoSource, IsCoTarget, IsEntrySource, IsEntryEdge}
use Rattle.axiom_check.specs.Gates.{IsThreadSource, IsThreadTarget, IsThreadEdge}
use Rattle.axiom_check.specs.External.{IsJudgeable, IsExternalSource, IsExternalTarget, IsExternalEdge}
use Rattle.axiom_check.proofs.GainsLemmas.{gains_both}

-- an access of the threads has a number
pub numbered_of : (threads : List ThreadRun) (all : List Access) → IsIndexed threads → all ≡ all_accesses threads → (id : EventId) (a : Access) → IsAccessOf threads id a
    → (n : ℕ) × IsNumbered all id n a
numbered_of threads all indexed same id a found =
    let (n, here) = in_all threads id.thread id.index a found in
    (n, record { here = subst (λ (l : List Access). slice_get l n ≡ Some a) (sym same) here; named = indexed id.thread id.index a found })

-- an access is of a thread that is there
pub thread_below : (threads : List ThreadRun) (t n : ℕ) (a : Access) → slice_get (accesses (items_of threads t)) n ≡ Some a → t < length threads
thread_below threads t n a here = elim (cases_lt t (length threads)) [
  | inl less ↦ less
  | inr past ↦ absurd (let none = items_of_none threads t (slice_get_past threads t past) in
      let moved = subst (λ items. slice_get (accesses items) n ≡ Some a) none here in cc)
]

-- what is known of an entry of co
pub record IsCoWrite (x : Execution) (all : List Access) (id : EventId) : Type 0 where
  pub number : ℕ
  pub access : Access
  pub numbered : IsNumbered all id number access
  pub writes : access.kind ≡ Write
  pub thread : id.thread < length x.threads

pub co_write : (x : Execution) (all : List Access) → IsJudgeable x → all ≡ all_accesses x.threads → (i : ℕ) (id : EventId) → slice_get x.co i ≡ Some id → IsCoWrite x all id
co_write x all judged same i id here =
    let (a, found, writes) = write_id_from x.threads judged.shaped.indexed id (judged.co.only id (i, here)) in
    let (n, numbered) = numbered_of x.threads all judged.shaped.indexed same id a found in
    record { number = n; access = a; numbered = numbered; writes = writes; thread = thread_below x.threads id.thread id.index a found }

-- the read of an entry of rf is there
pub entry_read : (x : Execution) → IsJudgeable x → (e : ReadFrom) → StandsIn x.rf e → (r : Access) × IsAccessOf x.threads e.read r × (is_read r.kind ≡ true)
entry_read x judged e listed =
    let mapped = stands_map (λ (entry : ReadFrom). entry.read) x.rf e listed in
    let there = subst (λ (ids : List EventId). StandsIn ids e.read) judged.shaped.entries.reads mapped in
    let (r, kept, is) = stands_image (λ (a : Access). a.id) (filter (λ (a : Access). is_read a.kind) (all_accesses x.threads)) e.read there in
    let (stands, reads) = stands_filtered (λ (a : Access). is_read a.kind) (all_accesses x.threads) r kept in
    let (t, n, here) = from_all x.threads r stands in
    let id = judged.shaped.indexed t n r here in
    let At : EventId → Type 0 = λ i. IsAccessOf x.threads i r in
    (r, subst At is (subst At (sym id) here), reads)

-- each source is known
pub sources_known : (x : Execution) (all : List Access) → IsJudgeable x → all ≡ all_accesses x.threads → AreSourcesKnown all x.co x.rf
sources_known x all judged same e entry k Start here byte = tt
sources_known x all judged same e entry k (From w) here byte =
    let (r, found, reads) = entry_read x judged entry (e, here) in
    let (a, write, writes, covers) = judged.sources entry r k (From w) (e, here) found byte in
    let (i, at) = judged.co.each w (write_id_in x.threads judged.shaped.indexed w a write writes) in
    let (n, numbered) = numbered_of x.threads all judged.shaped.indexed same w a write in
    (i, n, a, at, numbered)

pub external_sources : (x : Execution) (all : List Access) (within : Bool) (doors : List Door) (co : List EventId) (rf : List ReadFrom) (threads : List ThreadRun) (count : ℕ) (inside : Bool)
    (s0 s1 s2 s3 : List Slot) → s0 ≡ [] → co ≡ x.co → rf ≡ x.rf → threads ≡ x.threads → count ≡ length x.threads → inside ≡ within
    → Gains (Below co (IsCoSource all inside count) (length co)) s0 s1 → Gains (Below rf (IsEntrySource all x.co inside count) (length rf)) s1 s2
    → Gains (Below threads (IsThreadSource all doors) (length threads)) s2 s3 → Gains (IsExternalSource x all within doors) [] s3
external_sources x all within doors co rf threads count inside s0 s1 s2 s3 empty same_co same_rf same_threads same_count same_within first second third =
    let First : List Slot → List EventId → ℕ → Bool → Type 0 = λ s l n b. Gains (Below l (IsCoSource all b n) (length l)) s s1 in
    let Second : List ReadFrom → ℕ → Bool → Type 0 = λ l n b. Gains (Below l (IsEntrySource all x.co b n) (length l)) s1 s2 in
    let Third : List ThreadRun → Type 0 = λ l. Gains (Below l (IsThreadSource all doors) (length l)) s2 s3 in
    let one = subst (λ s. First s x.co (length x.threads) within) empty (subst (λ l. First s0 l (length x.threads) within) same_co
    (subst (λ n. First s0 co n within) same_count (subst (λ b. First s0 co count b) same_within first))) in
    let two = subst (λ l. Second l (length x.threads) within) same_rf (subst (λ n. Second rf n within) same_count (subst (λ b. Second rf count b) same_within second)) in
    let three = subst Third same_threads third in
    gains_both (λ s. Below x.co (IsCoSource all within (length x.threads)) (length x.co) s ⊎ Below x.rf (IsEntrySource all x.co within (length x.threads)) (length x.rf) s)
    (Below x.threads (IsThreadSource all doors) (length x.threads)) [] s2 s3
    (gains_both (Below x.co (IsCoSource all within (length x.threads)) (length x.co)) (Below x.rf (IsEntrySource all x.co within (length x.threads)) (length x.rf)) [] s1 s2 one two) three

pub external_targets : (x : Execution) (all : List Access) (doors : List Door) (co : List EventId) (threads : List ThreadRun) (s0 s1 s2 : List Slot)
    → s0 ≡ [] → co ≡ x.co → threads ≡ x.threads → Gains (Below co (IsCoTarget all) (length co)) s0 s1
    → Gains (Below threads (IsThreadTarget all doors) (length threads)) s1 s2 → Gains (IsExternalTarget x all doors) [] s2
external_targets x all doors co threads s0 s1 s2 empty same_co same_threads first second =
    let First : List Slot → List EventId → Type 0 = λ s l. Gains (Below l (IsCoTarget all) (length l)) s s1 in
    let Second : List ThreadRun → Type 0 = λ l. Gains (Below l (IsThreadTarget all doors) (length l)) s1 s2 in
    gains_both (Below x.co (IsCoTarget all) (length x.co)) (Below x.threads (IsThreadTarget all doors) (length x.threads)) [] s1 s2
    (subst (λ s. First s x.co) empty (subst (First s0) same_co first)) (subst Second same_threads second)

pub external_edges : (x : Execution) (all : List Access) (doors : List Door) (rf : List ReadFrom) (threads : List ThreadRun) (s0 s1 s2 : List Edge)
    → s0 ≡ [] → rf ≡ x.rf → threads ≡ x.threads → Gains (Below rf (IsEntryEdge all false) (length rf)) s0 s1
    → Gains (Below threads (IsThreadEdge all doors) (length threads)) s1 s2 → Gains (IsExternalEdge x all doors) [] s2
external_edges x all doors rf threads s0 s1 s2 empty same_rf same_threads first second =
    let First : List Edge → List ReadFrom → Type 0 = λ s l. Gains (Below l (IsEntryEdge all false) (length l)) s s1 in
    let Second : List ThreadRun → Type 0 = λ l. Gains (Below l (IsThreadEdge all doors) (length l)) s1 s2 in
    gains_both (Below x.rf (IsEntryEdge all false) (length x.rf)) (Below x.threads (IsThreadEdge all doors) (length x.threads)) [] s1 s2
    (subst (λ s. First s x.rf) empty (subst (First s0) same_rf first)) (subst Second same_threads second)
