-- What breaks the axiom Atomic is what comes between the halves of an instruction whose read is an entry of rf.
use Rattle.std.proofs.Common.{◌≡◌, ◌<◌, ◌+◌, ℕ, List, Option, Some, None, MatchOption, IsSomeAnd, length, ◌⊎◌, inl, inr, refl, sym, ap, subst, ◌∙◌, arith}
use Rattle.std.specs.List.{slice_get}
use Rattle.std.proofs.lemmas.Bool.{cases_lt}
use Rattle.ev_graph.specs.declared.events.Access.{Access}
use Rattle.ev_graph.specs.declared.events.EventId.{EventId}
use Rattle.ev_graph.specs.declared.execution.Execution.{Execution}
use Rattle.ev_graph.specs.declared.execution.ReadFrom.{ReadFrom}
use Rattle.ev_graph.specs.declared.execution.ThreadRun.{ThreadRun}
use Rattle.ev_graph.specs.Events.{Event, event, events, items_of, IsAccessOf, IsIn, IsRead, IsWrite, IsLocked}
use Rattle.ev_graph.specs.Pairs.{External, Fr, Co, Rmw}
use Rattle.ev_graph.specs.WellFormed.{all_accesses, IsLockedPair}
use Rattle.ev_graph.proofs.Ids.{write_id_in}
use Rattle.order_models.specs.Consistent.{Atomic}
use Rattle.axiom_check.specs.declared.atomic.Triple.{Triple}
use Rattle.axiom_check.specs.Atomic.{AreFew, AreHalves, AreTold, Before, Breaks, BreaksAt, IsFirstTriple, IsLeastTriple, IsWhole, triple_with}
use Rattle.axiom_check.specs.Bytes.{ArePlaces}
use Rattle.axiom_check.specs.External.{IsJudgeable}
use Rattle.axiom_check.specs.Numbers.{AreNumbered}
use Rattle.axiom_check.proofs.AccessOrder.{before_once, own_access, numbers_before, reads_before}
use Rattle.axiom_check.proofs.Judged.{sources_known, thread_below}
use Rattle.axiom_check.proofs.LanesLemmas.{place_below}
use Rattle.axiom_check.proofs.Ordering.{event_in, numbered_event}

-- the halves of a locked pair
halves_of : (threads : List ThreadRun) (r v : Access) → IsIn threads (event r) → IsIn threads (event v) → IsLockedPair threads (record { first = r.id; second = v.id }) → AreHalves r v
halves_of threads r v in_r in_v (thread, (next, reads, read_locked, writes, write_locked)) =
    let At : ℕ → Type 0 = λ t. slice_get (events (items_of threads t)) v.id.index ≡ Some (event v) in
    let here = subst At (sym thread) in_v in
    record {
      thread = thread;
      next = next;
      reads = subst (λ (e : Option Event). IsSomeAnd e IsRead) in_r reads;
      first_locked = subst (λ (e : Option Event). IsSomeAnd e IsLocked) in_r read_locked;
      writes = subst (λ (e : Option Event). IsSomeAnd e IsWrite) here writes;
      second_locked = subst (λ (e : Option Event). IsSomeAnd e IsLocked) here write_locked;
    }

pair_of : (threads : List ThreadRun) (r v : Access) → IsIn threads (event r) → IsIn threads (event v) → AreHalves r v → IsLockedPair threads (record { first = r.id; second = v.id })
pair_of threads r v in_r in_v halves =
    let At : ℕ → Type 0 = λ t. slice_get (events (items_of threads t)) v.id.index ≡ Some (event v) in
    let here = subst At (sym halves.thread) in_v in (
      halves.thread,
      (
        halves.next,
        subst (λ (e : Option Event). IsSomeAnd e IsRead) (sym in_r) halves.reads,
        subst (λ (e : Option Event). IsSomeAnd e IsLocked) (sym in_r) halves.first_locked,
        subst (λ (e : Option Event). IsSomeAnd e IsWrite) (sym here) halves.writes,
        subst (λ (e : Option Event). IsSomeAnd e IsLocked) (sym here) halves.second_locked,
      ),
    )

-- where a triple breaks the axiom
record IsBreak (x : Execution) (all : List Access) (t : Triple) : Type 0 where
  place : ℕ
  entry : ReadFrom
  here : slice_get x.rf place ≡ Some entry
  number : ℕ
  breaks : BreaksAt all x.co entry number t

-- three accesses that break the axiom do so at an entry of rf
break_of : (x : Execution) (all : List Access) (firsts : List ℕ) → IsJudgeable x → all ≡ all_accesses x.threads → AreNumbered all firsts → (l m n : ℕ) (r w v : Access)
    → slice_get all l ≡ Some r → slice_get all m ≡ Some w → slice_get all n ≡ Some v → Rmw x.rmw (event r) (event v) → External (event r) (event w)
    → Fr x.rf x.co (event r) (event w) → Co x.co (event w) (event v) → (t : Triple) → t ≡ triple_with r v w → IsBreak x all t
break_of x all firsts judged same numbered l m n r w v r_here w_here v_here pair apart fr co t named =
    let indexed = judged.shaped.indexed in
    let halves = halves_of x.threads r v (event_in x.threads all indexed same l r r_here) (event_in x.threads all indexed same n v v_here) ((judged.shaped.pairs _).0 pair) in
    let from = fr.from in
    let (e, listed) = from.listed in
    let (first, first_here, l_is) = numbered.told l r r_here in
    let (second, second_here, n_is) = numbered.told n v v_here in
    let moved = subst (λ (t : ℕ). slice_get firsts t ≡ Some first) halves.thread first_here in
    let firsts_same : first ≡ second = cc in
    let index = halves.next in
    let next : n ≡ l + 1 = omega arith in
    record {
      place = e;
      entry = from.entry;
      here = listed;
      number = m;
      breaks = record {
        number = l;
        r = r;
        v = v;
        w = w;
        read_is = record { here = r_here; named = sym from.read };
        write_here = subst (λ (k : ℕ). slice_get all k ≡ Some v) next v_here;
        between_here = w_here;
        halves = halves;
        between = record {
          rival = record { writes = fr.write; other = λ is. apart (sym is); overlap = co.overlap };
          earlier = co.earlier;
          over = (fr.k, fr.source, from.byte, (fr.covers, fr.later));
        };
        named = named;
      };
    }

-- what breaks the axiom does so at an entry of rf
to_break : (x : Execution) (all : List Access) (firsts : List ℕ) → IsJudgeable x → all ≡ all_accesses x.threads → AreNumbered all firsts → (t : Triple) → Breaks x t → IsBreak x all t
to_break x all firsts judged same numbered t b =
    let (l, r, r_here, r_is) = numbered_event x all judged.shaped.indexed same b.read b.read_in in
    let (m, w, w_here, w_is) = numbered_event x all judged.shaped.indexed same b.between b.between_in in
    let (n, v, v_here, v_is) = numbered_event x all judged.shaped.indexed same b.write b.write_in in
    let Pair : Event → Event → Type 0 = λ c d. Rmw x.rmw c d in
    let Apart : Event → Event → Type 0 = λ c d. External c d in
    let From : Event → Event → Type 0 = λ c d. Fr x.rf x.co c d in
    let Order : Event → Event → Type 0 = λ c d. Co x.co c d in
    let Named : Event → Event → Event → Type 0 = λ c d e. t ≡ record { read = c.id; between = d.id; write = e.id } in
    break_of x all firsts judged same numbered l m n r w v r_here w_here v_here
    (subst (λ (e : Event). Pair e (event v)) (sym r_is) (subst (λ (e : Event). Pair b.read e) (sym v_is) b.pair))
    (subst (λ (e : Event). Apart e (event w)) (sym r_is) (subst (λ (e : Event). Apart b.read e) (sym w_is) b.from_other))
    (subst (λ (e : Event). From e (event w)) (sym r_is) (subst (λ (e : Event). From b.read e) (sym w_is) b.overwrites))
    (subst (λ (e : Event). Order e (event v)) (sym w_is) (subst (λ (e : Event). Order b.between e) (sym v_is) b.overwritten)) t
    (subst (λ (e : Event). Named e (event w) (event v)) (sym r_is) (subst (λ (e : Event). Named b.read e (event v)) (sym w_is) (subst (λ (e : Event). Named b.read b.between e) (sym v_is) b.named)))

-- what breaks the axiom at an entry of rf does so
from_break : (x : Execution) (all : List Access) → IsJudgeable x → all ≡ all_accesses x.threads → (e : ℕ) (entry : ReadFrom) → slice_get x.rf e ≡ Some entry
    → (l : ℕ) (t : Triple) → BreaksAt all x.co entry l t → Breaks x t
from_break x all judged same e entry listed l t b =
    let indexed = judged.shaped.indexed in
    let in_r = event_in x.threads all indexed same b.number b.r b.read_is.here in
    let in_v = event_in x.threads all indexed same (b.number + 1) b.v b.write_here in
    let between = b.between in
    let (k, source, byte, (covers, later)) = between.over in
    let other = between.rival.other in
    let access = own_access x.threads all indexed same b.number b.r b.read_is.here in
    let sized = judged.shaped.entries.sizes entry b.r (e, listed) (subst (λ (i : EventId). IsAccessOf x.threads i b.r) b.read_is.named access) in
    let within = place_below entry.bytes k source byte in
    record {
      read = event b.r;
      between = event b.w;
      write = event b.v;
      read_in = in_r;
      between_in = event_in x.threads all indexed same l b.w b.between_here;
      write_in = in_v;
      pair = (judged.shaped.pairs _).1 (pair_of x.threads b.r b.v in_r in_v b.halves);
      from_other = λ is. other (sym is);
      overwrites = record {
        read = b.halves.reads;
        write = between.rival.writes;
        k = k;
        within = omega arith;
        covers = covers;
        source = source;
        from = record { entry = entry; listed = (e, listed); read = sym b.read_is.named; byte = byte };
        later = later;
      };
      to_other = λ is. other (is ∙ sym b.halves.thread);
      overwritten = record { first = between.rival.writes; second = b.halves.writes; earlier = between.earlier; overlap = between.rival.overlap };
      named = b.named;
    }

-- the read of a triple is the entry's
read_of : (all : List Access) (co : List EventId) (entry : ReadFrom) (l : ℕ) (t : Triple) → BreaksAt all co entry l t → t.read ≡ entry.read
read_of all co entry l t b = ap {B = EventId} (λ (s : Triple). s.read) b.named ∙ b.read_is.named

between_of : (all : List Access) (co : List EventId) (entry : ReadFrom) (l : ℕ) (t : Triple) → (b : BreaksAt all co entry l t) → t.between ≡ b.w.id
between_of all co entry l t b = ap {B = EventId} (λ (s : Triple). s.between) b.named

-- the first that comes between at an entry is the least
least_here : (x : Execution) (all : List Access) → IsJudgeable x → all ≡ all_accesses x.threads → (entry : ReadFrom) (l m : ℕ) (t s : Triple) → BreaksAt all x.co entry l t
    → BreaksAt all x.co entry m s → ((m : ℕ) (s : Triple) → m < l → BreaksAt all x.co entry m s → ⊥) → Before s.between t.between → ⊥
least_here x all judged same entry l m t s b other least before = elim (cases_lt m l) [
  | inl less ↦ least m s less other
  | inr not_less ↦ elim (cases_lt l m) [
    | inl more ↦ (let At : ℕ → Access → Type 0 = λ k a. slice_get (all_accesses x.threads) k ≡ Some a in
        let first = subst (λ (list : List Access). slice_get list l ≡ Some b.w) same b.between_here in
        let second = subst (λ (list : List Access). slice_get list m ≡ Some other.w) same other.between_here in
        let ids = numbers_before x.threads judged.shaped.indexed l m b.w other.w more first second in
        let named_t = between_of all x.co entry l t b in
        let named_s = between_of all x.co entry m s other in
        before_once b.w.id other.w.id ids (subst (λ (i : EventId). Before other.w.id i) named_t (subst (λ (i : EventId). Before i t.between) named_s before)))
    | inr not_more ↦ (let place : l ≡ m = omega arith in
        let moved = subst (λ (k : ℕ). slice_get all k ≡ Some b.w) place b.between_here in
        let there = other.between_here in
        let accesses : b.w ≡ other.w = cc in
        let named_t = between_of all x.co entry l t b in
        let named_s = between_of all x.co entry m s other in
        let ids : s.between ≡ t.between = named_s ∙ sym (ap {B = EventId} (λ (a : Access). a.id) accesses) ∙ sym named_t in
        let again = subst (λ (i : EventId). Before i t.between) ids before in
        before_once t.between t.between again again)
  ]
]

-- what breaks the axiom is no less than what is first among the entries of rf
not_less : (x : Execution) (all : List Access) → IsJudgeable x → all ≡ all_accesses x.threads → (t : Triple) (e : ℕ) (entry : ReadFrom) → slice_get x.rf e ≡ Some entry → (l : ℕ)
    → BreaksAt all x.co entry l t → ((m : ℕ) (s : Triple) → m < l → BreaksAt all x.co entry m s → ⊥)
    → ((d : ℕ) (other : ReadFrom) → d < e → slice_get x.rf d ≡ Some other → IsWhole all x.co other)
    → (s : Triple) → IsBreak x all s → Before s.read t.read ⊎ ((s.read ≡ t.read) × Before s.between t.between) → ⊥
not_less x all judged same t e entry here l b least earlier s other either =
    let t_read = read_of all x.co entry l t b in
    let s_read = read_of all x.co other.entry other.number s other.breaks in
    elim (cases_lt other.place e) [
      | inl less ↦ earlier other.place other.entry less other.here other.number s other.breaks
      | inr at_least ↦ elim (cases_lt e other.place) [
        | inl more ↦ (let rises = reads_before x judged.shaped.indexed judged.shaped.entries e other.place entry other.entry more here other.here in
            let order = subst (λ (i : EventId). Before i s.read) (sym t_read) (subst (λ (i : EventId). Before entry.read i) (sym s_read) rises) in
            elim either [
              | inl before ↦ before_once t.read s.read order before
              | inr equal ↦ (let again = subst (λ (i : EventId). Before t.read i) equal.0 order in before_once t.read t.read again again)
            ])
        | inr at_most ↦ (let place : other.place ≡ e = omega arith in
            let moved = subst (λ (k : ℕ). slice_get x.rf k ≡ Some other.entry) place other.here in
            let entries : other.entry ≡ entry = cc in
            let breaks = subst (λ (f : ReadFrom). BreaksAt all x.co f other.number s) entries other.breaks in
            let reads : s.read ≡ t.read = read_of all x.co entry other.number s breaks ∙ sym t_read in
            elim either [
              | inl before ↦ (let again = subst (λ (i : EventId). Before i t.read) reads before in before_once t.read t.read again again)
              | inr equal ↦ least_here x all judged same entry l other.number t s b breaks least equal.1
            ])
      ]
    ]

-- what is first among the entries of rf is the least of all
least_of : (x : Execution) (all : List Access) (firsts : List ℕ) → IsJudgeable x → all ≡ all_accesses x.threads → AreNumbered all firsts → (t : Triple) → IsFirstTriple all x.co x.rf (Some t)
    → IsLeastTriple x t
least_of x all firsts judged same numbered t first =
    let (e, entry, here, between, earlier) = first in
    let (l, b, least) = between in
    record {
      breaks = from_break x all judged same e entry here l t b;
      least = λ s breaks either. not_less x all judged same t e entry here l b least earlier s (to_break x all firsts judged same numbered s breaks) either;
    }

-- the accesses are of few threads
pub few_all : (x : Execution) (all : List Access) → IsJudgeable x → all ≡ all_accesses x.threads → AreFew all
few_all x all judged same n a here =
    let less = thread_below x.threads a.id.thread a.id.index a (own_access x.threads all judged.shaped.indexed same n a here) in
    let few = judged.threads in
    omega arith

-- the table of places tells those of an entry's sources
pub told_at : (x : Execution) (all : List Access) → IsJudgeable x → all ≡ all_accesses x.threads → (co : List EventId) → co ≡ x.co → (places : List ℕ)
    → ArePlaces all co (length co) places → (rf : List ReadFrom) → rf ≡ x.rf → (e : ℕ) (entry : ReadFrom) → slice_get rf e ≡ Some entry → AreTold all x.co places entry.bytes
told_at x all judged same co co_same places listed rf rf_same e entry here = record {
  once = judged.co.once;
  listed = subst (λ (l : List EventId). ArePlaces all l (length l) places) co_same listed;
  sources = λ k source byte. sources_known x all judged same e entry k source (subst (λ (l : List ReadFrom). slice_get l e ≡ Some entry) rf_same here) byte;
  writes = λ n a there writes.
      let access = own_access x.threads all judged.shaped.indexed same n a there in
      let (i, at) = judged.co.each a.id (write_id_in x.threads judged.shaped.indexed a.id a access writes) in
      (i, n, a, at, record { here = there; named = refl });
}

-- the first triple of the entries of rf is the answer
pub judged_triple : (x : Execution) (all : List Access) (firsts : List ℕ) → IsJudgeable x → all ≡ all_accesses x.threads → AreNumbered all firsts → (rf : List ReadFrom) → rf ≡ x.rf
    → (found : Option Triple) → IsFirstTriple all x.co rf found → MatchOption found (Atomic x) (λ t. IsLeastTriple x t)
judged_triple x all firsts judged same numbered rf is None none = λ r w v in_r in_w in_v pair apart fr back co.
    let t : Triple = record { read = r.id; between = w.id; write = v.id } in
    let found = to_break x all firsts judged same numbered t (record {
      read = r;
      between = w;
      write = v;
      read_in = in_r;
      between_in = in_w;
      write_in = in_v;
      pair = pair;
      from_other = apart;
      overwrites = fr;
      to_other = back;
      overwritten = co;
      named = refl;
    }) in
    none found.place found.entry (subst (λ (l : List ReadFrom). slice_get l found.place ≡ Some found.entry) (sym is) found.here) found.number t found.breaks
judged_triple x all firsts judged same numbered rf is (Some t) first =
    least_of x all firsts judged same numbered t (subst (λ (l : List ReadFrom). IsFirstTriple all x.co l (Some t)) is first)
