-- The faults of co, and the writes that it does not have.
use Rattle.std.proofs.Common.{◌≡◌, ◌≤◌, ◌<◌, ◌+◌, ℕ, zero, suc, Bool, true, false, cond, List, [], ◌∷◌, ◌++◌, map, filter, length, take, ◌⊎◌, inl, inr, Option, Some, None, refl, sym, ◌∙◌, subst, ap, arith}
use Rattle.std.specs.List.{slice_get, flat_map, range_with_len}
use Rattle.std.specs.Option.{option_map}
use Rattle.std.proofs.lemmas.Option.{slice_get_within}
use Rattle.ev_graph.specs.declared.events.Access.{Access}
use Rattle.ev_graph.specs.declared.events.AccessKind.TheVariants.{Write}
use Rattle.ev_graph.specs.declared.events.EventId.{EventId}
use Rattle.ev_graph.specs.declared.events.Item.{Item}
use Rattle.ev_graph.specs.declared.events.Item.TheVariants as item
use Rattle.ev_graph.specs.declared.execution.Execution.{Execution}
use Rattle.ev_graph.specs.declared.execution.FormFault.{FormFault}
use Rattle.ev_graph.specs.declared.execution.FormFault.TheVariants.{CoEntry, CoMissing}
use Rattle.ev_graph.specs.declared.execution.ThreadRun.{ThreadRun}
use Rattle.ev_graph.specs.Memory.{Cell}
use Rattle.ev_graph.specs.Places.{StandsIn}
use Rattle.ev_graph.specs.Events.{accesses, IsAccessOf}
use Rattle.ev_graph.specs.WellFormed.{is_write, all_accesses, write_ids, IsShaped}
use Rattle.ev_graph.specs.Faults.{IsAbsent, IsFirstPresent, IsFirstFault, entry_faults}
use Rattle.ev_graph.specs.FinderMark.{IsMark}
use Rattle.ev_graph.specs.Giving.{item_writes, thread_writes}
use Rattle.ev_graph.proofs.FirstLemmas.{none_present, first_front, first_behind, first_images}
use Rattle.ev_graph.proofs.Ids.{write_id_in, write_id_from}
use Rattle.ev_graph.proofs.PlaceLemmas.{get-take, get-take_past}
use Rattle.ev_graph.proofs.Members.{stands_image}

filter-join : {A : Type 0} (p : A → Bool) (xs ys : List A) → filter p (xs ++ ys) ≡ filter p xs ++ filter p ys
filter-join p [] ys = refl
filter-join {A} p (x ∷ xs) ys =
    let Goal : Bool → Type 0 = λ b. cond b (x ∷ filter p (xs ++ ys)) (filter p (xs ++ ys)) ≡ cond b (x ∷ filter p xs) (filter p xs) ++ filter p ys in
    elim (p x) as Goal [ true ↦ ap (λ rest. x ∷ rest) (filter-join p xs ys) | false ↦ filter-join p xs ys ]

map-join : {A B : Type 0} (f : A → B) (xs ys : List A) → map f (xs ++ ys) ≡ map f xs ++ map f ys
map-join f [] ys = refl
map-join f (x ∷ xs) ys = ap (λ rest. f x ∷ rest) (map-join f xs ys)

-- the writes of a thread, item by item
pub thread_writes-items : (items : List Item) → thread_writes items ≡ flat_map item_writes items
thread_writes-items [] = refl
thread_writes-items (item.Access a ∷ items) =
    let Goal : Bool → Type 0 = λ b. map (λ (w : Access). w.id) (cond b (a ∷ filter (λ (w : Access). is_write w.kind) (accesses items)) (filter (λ (w : Access). is_write w.kind) (accesses items)))
    ≡ cond b (a.id ∷ []) [] ++ flat_map item_writes items in
    elim (is_write a.kind) as Goal [ true ↦ ap (λ rest. a.id ∷ rest) (thread_writes-items items) | false ↦ thread_writes-items items ]
thread_writes-items (item.Fence f ∷ items) = thread_writes-items items
thread_writes-items (item.Input v ∷ items) = thread_writes-items items
thread_writes-items (item.Output v ∷ items) = thread_writes-items items

-- the writes of all threads, thread by thread
pub write_ids-threads : (threads : List ThreadRun) → write_ids threads ≡ flat_map (λ (run : ThreadRun). thread_writes run.items) threads
write_ids-threads [] = refl
write_ids-threads (run ∷ threads) =
    let test = λ (a : Access). is_write a.kind in
    let id = λ (a : Access). a.id in
    ap (map id) (filter-join test (accesses run.items) (all_accesses threads))
    ∙ map-join id (filter test (accesses run.items)) (filter test (all_accesses threads))
    ∙ ap (λ rest. thread_writes run.items ++ rest) (write_ids-threads threads)

-- an entry of co is a write that no earlier entry names
abbrev pub IsNewWrite : Execution → ℕ → EventId → Type 0
IsNewWrite x i w = StandsIn (write_ids x.threads) w × ((j : ℕ) → j < i → slice_get x.co j ≡ Some w → ⊥)

-- the first entry of co that is not
pub co_none : (cells : ℕ → Option Cell) (x : Execution) (n : ℕ) → length x.co ≤ n
    → ((j : ℕ) (w : EventId) → j < n → slice_get x.co j ≡ Some w → IsNewWrite x j w)
    → IsFirstPresent (IsAbsent cells x) (map CoEntry (range_with_len 0 (length x.co))) None
co_none cells x n past before = none_present (IsAbsent cells x) (map CoEntry (range_with_len 0 (length x.co))) (λ fault stands.
    let image = stands_image CoEntry (range_with_len 0 (length x.co)) fault stands in
    let Absent : FormFault → Type 0 = λ f. IsAbsent cells x f in
    subst Absent image.2 (λ w here. let within = slice_get_within x.co image.0 w here in before image.0 w (omega arith) here))

-- a first place in a range where something is present
range_first : (Absent : ℕ → Type 0) (a n i : ℕ) → i < n → ((j : ℕ) → j < i → Absent (a + j)) → (Absent (a + i) → ⊥) → IsFirstPresent Absent (range_with_len a n) (Some (a + i))
range_first Absent a zero i less before not = absurd (omega arith)
range_first Absent a (suc n) zero less before not =
    let e : a + 0 ≡ a = omega arith in
    inl ((λ absent. not (rw e absent)), ap Some e)
range_first Absent a (suc n) (suc i) less before not =
    let e : a + 0 ≡ a = omega arith in
    let next : a + suc i ≡ a + 1 + i = omega arith in
    inr (
      rw e at (before 0 (omega arith)),
      rw next (range_first Absent (a + 1) n i (omega arith) (λ j earlier. let here : a + 1 + j ≡ a + suc j = omega arith in rw here (before (suc j) (omega arith)))
          (λ absent. not (rw next absent))),
    )

pub co_first : (cells : ℕ → Option Cell) (x : Execution) (i : ℕ) (w : EventId) → slice_get x.co i ≡ Some w
    → ((j : ℕ) (v : EventId) → j < i → slice_get x.co j ≡ Some v → IsNewWrite x j v) → (IsNewWrite x i w → ⊥)
    → IsFirstPresent (IsAbsent cells x) (map CoEntry (range_with_len 0 (length x.co))) (Some (CoEntry i))
co_first cells x i w here before not =
    let Absent : ℕ → Type 0 = λ j. IsAbsent cells x (CoEntry j) in
    let e : 0 + i ≡ i = omega arith in
    first_images (IsAbsent cells x) CoEntry (range_with_len 0 (length x.co)) (Some i)
    (rw e at (range_first Absent 0 (length x.co) i (slice_get_within x.co i w here)
    (λ j earlier. let zero_j : 0 + j ≡ j = omega arith in subst Absent (sym zero_j) (λ v there. before j v earlier there))
    (λ absent. let moved : Absent i = subst Absent e absent in not (moved w here))))

-- what the code tests of an entry of co
abbrev pub IsTested : List ThreadRun → List EventId → ℕ → EventId → Type 0
IsTested threads co i w = ((a : Access) × IsAccessOf threads w a × (a.kind ≡ Write)) × (StandsIn (take i co) w → ⊥)

tested_to : (x : Execution) → IsShaped x → (i : ℕ) (w : EventId) → IsTested x.threads x.co i w → IsNewWrite x i w
tested_to x shaped i w (write, fresh) =
    (write_id_in x.threads shaped.indexed w write.0 write.1 write.2, λ j earlier here. fresh (j, get-take x.co i j earlier ∙ here))

tested_from : (x : Execution) → IsShaped x → (i : ℕ) (w : EventId) → IsNewWrite x i w → IsTested x.threads x.co i w
tested_from x shaped i w (write, fresh) = (
  write_id_from x.threads shaped.indexed w write,
  λ (j, here).
      let cases : (j < i) ⊎ (i ≤ j) = grind arith in
      elim cases [
        | inl earlier ↦ fresh j earlier (sym (get-take x.co i j earlier) ∙ here)
        | inr past ↦ let none = get-take_past x.co i j past in absurd cc
      ],
)

-- the test of an entry, over the slices that the code sees
pub tested_new : (x : Execution) → IsShaped x → (threads : List ThreadRun) (co : List EventId) (i : ℕ) (w : EventId) → threads ≡ x.threads → co ≡ x.co
    → IsTested threads co i w → IsNewWrite x i w
tested_new x shaped threads co i w same_threads same_co tested =
    let Threads : List ThreadRun → Type 0 = λ all. IsTested all co i w in
    let Entries : List EventId → Type 0 = λ all. IsTested x.threads all i w in
    tested_to x shaped i w (subst Entries same_co (subst Threads same_threads tested))

pub new_tested : (x : Execution) → IsShaped x → (threads : List ThreadRun) (co : List EventId) (i : ℕ) (w : EventId) → threads ≡ x.threads → co ≡ x.co
    → IsNewWrite x i w → IsTested threads co i w
new_tested x shaped threads co i w same_threads same_co new =
    let Threads : List ThreadRun → Type 0 = λ all. IsTested all co i w in
    let Entries : List EventId → Type 0 = λ all. IsTested x.threads all i w in
    subst Threads (sym same_threads) (subst Entries (sym same_co) (tested_from x shaped i w new))

-- one more entry of co
pub co_step : (x : Execution) (i : ℕ) (w : EventId) → slice_get x.co i ≡ Some w
    → ((j : ℕ) (v : EventId) → j < i → slice_get x.co j ≡ Some v → IsNewWrite x j v) → IsNewWrite x i w
    → (j : ℕ) (v : EventId) → j < i + 1 → slice_get x.co j ≡ Some v → IsNewWrite x j v
co_step x i w here before new j v less there =
    let cases : (j < i) ⊎ (i ≡ j) = grind arith in
    elim cases [
      | inl earlier ↦ before j v earlier there
      | inr same ↦
          let moved : slice_get x.co i ≡ Some v = rw same there in
          let is : w ≡ v = cc in
          let New : ℕ → Type 0 = λ k. IsNewWrite x k v in
          subst New same (rw is at new)
    ]

-- where nothing is missing, each kind of fault is absent
pub no_missing : (cells : ℕ → Option Cell) (x : Execution) (found : Option EventId) → IsFirstPresent (StandsIn x.co) (write_ids x.threads) found
    → IsFirstPresent (IsAbsent cells x) (map CoMissing (write_ids x.threads)) (option_map CoMissing found)
no_missing cells x found first = first_images (IsAbsent cells x) CoMissing (write_ids x.threads) found first

-- the first fault of the reads, of the entries of co, and of the writes that it does not have
pub fault_of_reads : (cells : ℕ → Option Cell) (x : Execution) (fault : FormFault) → IsFirstPresent (IsAbsent cells x) (flat_map entry_faults x.rf) (Some fault)
    → IsFirstFault cells x (Some fault)
fault_of_reads cells x fault reads =
    first_front (IsAbsent cells x) _ (map CoMissing (write_ids x.threads)) fault
    (first_front (IsAbsent cells x) (flat_map entry_faults x.rf) (map CoEntry (range_with_len 0 (length x.co))) fault reads)

pub fault_of_co : (cells : ℕ → Option Cell) (x : Execution) (fault : FormFault) → IsFirstPresent (IsAbsent cells x) (flat_map entry_faults x.rf) None
    → IsFirstPresent (IsAbsent cells x) (map CoEntry (range_with_len 0 (length x.co))) (Some fault) → IsFirstFault cells x (Some fault)
fault_of_co cells x fault reads co =
    first_front (IsAbsent cells x) _ (map CoMissing (write_ids x.threads)) fault
    (first_behind (IsAbsent cells x) (flat_map entry_faults x.rf) (map CoEntry (range_with_len 0 (length x.co))) (Some fault) reads co)

pub fault_of_missing : (cells : ℕ → Option Cell) (x : Execution) (found : Option EventId) → IsFirstPresent (IsAbsent cells x) (flat_map entry_faults x.rf) None
    → IsFirstPresent (IsAbsent cells x) (map CoEntry (range_with_len 0 (length x.co))) None → IsFirstPresent (StandsIn x.co) (write_ids x.threads) found
    → IsFirstFault cells x (option_map CoMissing found)
fault_of_missing cells x found reads co missing =
    first_behind (IsAbsent cells x) _ (map CoMissing (write_ids x.threads)) (option_map CoMissing found)
    (first_behind (IsAbsent cells x) (flat_map entry_faults x.rf) (map CoEntry (range_with_len 0 (length x.co))) None reads co)
    (no_missing cells x found missing)

-- a mark of the same threads
pub mark_same : (threads also : List ThreadRun) (t place n : ℕ) → threads ≡ also → IsMark threads t place n → IsMark also t place n
mark_same threads also t place n same mark =
    let Threads : List ThreadRun → Type 0 = λ all. IsMark all t place n in
    subst Threads same mark

-- the writes that co does not have, over the slices that the code sees
pub missing_same : (x : Execution) (threads : List ThreadRun) (co : List EventId) (found : Option EventId) → threads ≡ x.threads → co ≡ x.co
    → IsFirstPresent (StandsIn co) (write_ids threads) found → IsFirstPresent (StandsIn x.co) (write_ids x.threads) found
missing_same x threads co found same_threads same_co missing =
    let Threads : List ThreadRun → Type 0 = λ all. IsFirstPresent (StandsIn co) (write_ids all) found in
    let Entries : List EventId → Type 0 = λ all. IsFirstPresent (StandsIn all) (write_ids x.threads) found in
    subst Entries same_co (subst Threads same_threads missing)
