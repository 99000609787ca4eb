-- Accesses are numbered as they stand before one another, and rf lists the reads in that order.
use Rattle.std.proofs.Common.{◌≡◌, ◌<◌, ◌≤◌, ◌+◌, ℕ, zero, suc, Bool, true, false, cond, List, [], ◌∷◌, length, filter, Some, inl, inr, refl, sym, ap, subst, ◌∙◌, arith}
use Rattle.std.specs.List.{slice_get}
use Rattle.std.specs.Option.{option_map}
use Rattle.std.proofs.lemmas.Bool.{cases_lt}
use Rattle.std.proofs.lemmas.Option.{slice_get-map}
use Rattle.ev_graph.specs.declared.events.Access.{Access}
use Rattle.ev_graph.specs.declared.events.EventId.{EventId}
use Rattle.ev_graph.specs.declared.execution.Execution.{Execution}
use Rattle.ev_graph.specs.declared.execution.ReadFrom.{ReadFrom}
use Rattle.ev_graph.specs.declared.execution.ThreadRun.{ThreadRun}
use Rattle.ev_graph.specs.Events.{accesses, items_of, IsAccessOf}
use Rattle.ev_graph.specs.Places.{Earlier}
use Rattle.ev_graph.specs.WellFormed.{all_accesses, is_read, HasEntries, IsIndexed}
use Rattle.ev_graph.proofs.Ids.{from_all}
use Rattle.ev_graph.proofs.Members.{stands_filtered}
use Rattle.axiom_check.specs.Atomic.{Before}
use Rattle.axiom_check.specs.Numbers.{firsts_from}
use Rattle.axiom_check.proofs.LanesLemmas.{place_below}
use Rattle.axiom_check.proofs.NumberLemmas.{are_numbered}
use Rattle.axiom_check.proofs.Ordering.{image_at}

-- of two accesses at most one stands before the other
pub before_once : (d e : EventId) → Before d e → Before e d → ⊥
before_once d e (inl less) (inl other) = omega arith
before_once d e (inl less) (inr other) = let same = other.0 in omega arith
before_once d e (inr less) (inl other) = let same = less.0 in omega arith
before_once d e (inr less) (inr other) = let low = less.1 in let high = other.1 in omega arith

firsts_low : (base : ℕ) (threads : List ThreadRun) (t first : ℕ) → slice_get (firsts_from base threads) t ≡ Some first → base ≤ first
firsts_low base [] t first here = absurd cc
firsts_low base (thread ∷ threads) zero first here = let same : base ≡ first = cc in omega arith
firsts_low base (thread ∷ threads) (suc t) first here = let rest = firsts_low (base + length (accesses thread.items)) threads t first here in omega arith

-- a later thread's first access comes after all of an earlier thread
firsts_rise : (base : ℕ) (threads : List ThreadRun) (t u first later : ℕ) → t < u → slice_get (firsts_from base threads) t ≡ Some first
    → slice_get (firsts_from base threads) u ≡ Some later → first + length (accesses (items_of threads t)) ≤ later
firsts_rise base [] t u first later less here there = absurd cc
firsts_rise base (thread ∷ threads) t zero first later less here there = absurd (omega arith)
firsts_rise base (thread ∷ threads) zero (suc u) first later less here there =
    let low = firsts_low (base + length (accesses thread.items)) threads u later there in
    let same : base ≡ first = cc in
    omega arith
firsts_rise base (thread ∷ threads) (suc t) (suc u) first later less here there =
    firsts_rise (base + length (accesses thread.items)) threads t u first later (omega arith) here there

-- an access of all is the one of the threads with its id
pub own_access : (threads : List ThreadRun) (all : List Access) → IsIndexed threads → all ≡ all_accesses threads → (n : ℕ) (a : Access) → slice_get all n ≡ Some a → IsAccessOf threads a.id a
own_access threads all indexed same n a here =
    let (t, m, at) = from_all threads a (n, subst (λ (l : List Access). slice_get l n ≡ Some a) same here) in
    subst (λ (i : EventId). IsAccessOf threads i a) (sym (indexed t m a at)) at

-- of two accesses the one with the lesser number stands before the other
pub numbers_before : (threads : List ThreadRun) → IsIndexed threads → (m n : ℕ) (a b : Access) → m < n → slice_get (all_accesses threads) m ≡ Some a
    → slice_get (all_accesses threads) n ≡ Some b → Before a.id b.id
numbers_before threads indexed m n a b less here there =
    let numbered = are_numbered threads (all_accesses threads) (firsts_from 0 threads) indexed refl refl in
    let (first, begins, m_is) = numbered.told m a here in
    let (later, there_begins, n_is) = numbered.told n b there in
    elim (cases_lt a.id.thread b.id.thread) [
      | inl lower ↦ inl lower
      | inr not_lower ↦ elim (cases_lt b.id.thread a.id.thread) [
        | inl higher ↦ absurd (let rise = firsts_rise 0 threads b.id.thread a.id.thread later first higher there_begins begins in
            let within = place_below (accesses (items_of threads b.id.thread)) b.id.index b (own_access threads (all_accesses threads) indexed refl n b there) in
            omega arith)
        | inr not_higher ↦ (let same : a.id.thread ≡ b.id.thread = omega arith in
            let moved = subst (λ (t : ℕ). slice_get (firsts_from 0 threads) t ≡ Some first) same begins in
            let firsts : first ≡ later = cc in
            inr (same, (omega arith)))
      ]
    ]

behind : {A : Type 0} (x : A) (xs : List A) (a b : A) → Earlier xs a b → Earlier (x ∷ xs) a b
behind x xs a b earlier = let order = earlier.order in record { i = suc earlier.i; j = suc earlier.j; order = omega arith; first = earlier.first; second = earlier.second }

-- the same where the first element is kept or not
after_test : {A : Type 0} (p : A → Bool) (x : A) (xs : List A) (a b : A) (test : Bool)
    → ((m n : ℕ) → m < n → slice_get (filter p xs) m ≡ Some a → slice_get (filter p xs) n ≡ Some b → Earlier xs a b)
    → (i j : ℕ) → i < j → slice_get (cond test (x ∷ filter p xs) (filter p xs)) i ≡ Some a → slice_get (cond test (x ∷ filter p xs) (filter p xs)) j ≡ Some b
    → Earlier (x ∷ xs) a b
after_test p x xs a b false rest i j less first second = behind x xs a b (rest i j less first second)
after_test p x xs a b true rest i zero less first second = absurd (omega arith)
after_test p x xs a b true rest zero (suc j) less first second =
    let there = (stands_filtered p xs b (j, second)).0 in
    record { i = 0; j = suc there.0; order = omega arith; first = first; second = there.1 }
after_test p x xs a b true rest (suc i) (suc j) less first second = behind x xs a b (rest i j (omega arith) first second)

-- what stands behind another in a filtered list does so in the whole
filtered_before : {A : Type 0} (p : A → Bool) (xs : List A) (i j : ℕ) (a b : A) → i < j → slice_get (filter p xs) i ≡ Some a → slice_get (filter p xs) j ≡ Some b → Earlier xs a b
filtered_before p [] i j a b less here there = absurd cc
filtered_before p (x ∷ xs) i j a b less here there =
    after_test p x xs a b (p x) (λ m n before first second. filtered_before p xs m n a b before first second) i j less here there

-- rf lists the reads as they stand before one another
pub reads_before : (x : Execution) → IsIndexed x.threads → HasEntries x → (d e : ℕ) (one two : ReadFrom) → d < e → slice_get x.rf d ≡ Some one → slice_get x.rf e ≡ Some two
    → Before one.read two.read
reads_before x indexed entries d e one two less here there =
    let read = λ (entry : ReadFrom). entry.read in
    let id = λ (a : Access). a.id in
    let At : ℕ → EventId → List EventId → Type 0 = λ i r ids. slice_get ids i ≡ Some r in
    let first = subst (At d one.read) entries.reads (slice_get-map read x.rf d ∙ ap (option_map read) here) in
    let second = subst (At e two.read) entries.reads (slice_get-map read x.rf e ∙ ap (option_map read) there) in
    let (a, a_here, a_id) = image_at id (filter (λ (b : Access). is_read b.kind) (all_accesses x.threads)) d one.read first in
    let (b, b_here, b_id) = image_at id (filter (λ (c : Access). is_read c.kind) (all_accesses x.threads)) e two.read second in
    let before = filtered_before (λ (c : Access). is_read c.kind) (all_accesses x.threads) d e a b less a_here b_here in
    let ids = numbers_before x.threads indexed before.i before.j a b before.order before.first before.second in
    subst (λ (i : EventId). Before i two.read) a_id (subst (λ (i : EventId). Before a.id i) b_id ids)
