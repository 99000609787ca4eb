-- What comes between the halves of an atomic instruction, by the places in co.
use Rattle.std.proofs.Common.{◌≡◌, ◌≢◌, ◌<◌, ◌+◌, ◌↔◌, ℕ, List, [], Some, Option, None, length, inl, inr, refl, sym, subst, arith}
use Rattle.std.specs.List.{slice_get}
use Rattle.std.specs.Option.{option_map}
use Rattle.ev_graph.specs.declared.events.Access.{Access}
use Rattle.ev_graph.specs.declared.events.EventId.{EventId}
use Rattle.ev_graph.specs.declared.execution.ReadFrom.{ReadFrom}
use Rattle.ev_graph.specs.declared.execution.Source.{Source}
use Rattle.ev_graph.specs.declared.execution.Source.TheVariants.{From}
use Rattle.ev_graph.specs.Events.{event}
use Rattle.ev_graph.specs.Pairs.{Overwrites}
use Rattle.ev_graph.specs.Places.{IsDistinct, StandsIn}
use Rattle.axiom_check.specs.declared.lanes.Slot.{Slot}
use Rattle.axiom_check.specs.Gains.{Gains, Below}
use Rattle.axiom_check.proofs.LanesLemmas.{place_below}
use Rattle.axiom_check.specs.declared.atomic.Triple.{Triple}
use Rattle.axiom_check.specs.Atomic.{AreFew, AreHalves, BreaksAt, ComesBetween, IsFirstAccess, IsTripleAt, IsTripleOf, IsWhole, OverwritesSome, triple_with}
use Rattle.axiom_check.specs.Bytes.{key, IsCoTarget, IsFrom}
use Rattle.axiom_check.specs.Numbers.{AreNumbered, IsNumbered}
use Rattle.axiom_check.proofs.BytePairs.{from_before, overwritten}
use Rattle.axiom_check.proofs.NumberLemmas.{same_number}

-- a write overwrites what comes from a source just where the place behind it is a later one
pub over_by_place : (co : List EventId) → IsDistinct co → (w : Access) (source : Source) (place behind : ℕ) → IsFrom co source place → IsFrom co (From w.id) behind
    → (place < behind) ↔ Overwrites co (event w) source
over_by_place co once w source place behind from (j, there, is) = (
  (λ less. overwritten co source place j w from (omega arith) there),
  (λ later. let low = from_before co once source w later j there place from in omega arith),
)

-- where no write of another thread overwrites what the read finds, none comes between
pub none_between : (all : List Access) (co : List EventId) (bytes : List Source) (r v : Access) (end : ℕ) → IsDistinct co → AreFew all → IsFrom co (From v.id) end
    → ((n place : ℕ) (w : Access) → slice_get all n ≡ Some w → w.id.thread < 16 → w.id.thread ≢ r.id.thread → slice_get co place ≡ Some w.id → place < end
    → OverwritesSome co bytes r w → ⊥)
    → IsTripleOf all co bytes r v None
none_between all co bytes r v end once few (j, there, is) none = (
  None,
  (λ n w here between.
      let at = between.earlier in
      let same : j ≡ at.j = once j at.j v.id there at.second in
      let order = at.order in
      none n at.i w here (few n w here) between.rival.other at.first (omega arith) between.over),
  refl,
)

-- what comes between the halves at an entry of rf comes between these
between_at : (all : List Access) (firsts : List ℕ) → AreNumbered all firsts → (co : List EventId) (entry : ReadFrom) (bytes : List Source) → bytes ≡ entry.bytes
    → (n : ℕ) (r v : Access) → IsNumbered all entry.read n r → slice_get all (n + 1) ≡ Some v
    → (l : ℕ) (t : Triple) → (b : BreaksAt all co entry l t) → ComesBetween co bytes r v b.w
between_at all firsts numbered co entry bytes same n r v is next l t b =
    let number : b.number ≡ n = same_number all firsts numbered entry.read b.number n b.r r b.read_is is in
    let read_moved = subst (λ (k : ℕ). slice_get all k ≡ Some b.r) number b.read_is.here in
    let is_here = is.here in
    let read : b.r ≡ r = cc in
    let write_moved = subst (λ (k : ℕ). slice_get all (k + 1) ≡ Some b.v) number b.write_here in
    let write : b.v ≡ v = cc in
    let between = subst (λ (sources : List Source). ComesBetween co sources b.r b.v b.w) (sym same) b.between in
    subst (λ (a : Access). ComesBetween co bytes a v b.w) read (subst (λ (a : Access). ComesBetween co bytes b.r a b.w) write between)

first_at_entry : (all : List Access) (firsts : List ℕ) → AreNumbered all firsts → (co : List EventId) (entry : ReadFrom) (bytes : List Source) → bytes ≡ entry.bytes
    → (n : ℕ) (r v : Access) → IsNumbered all entry.read n r → slice_get all (n + 1) ≡ Some v → AreHalves r v
    → (first : Option Access) → IsFirstAccess all (ComesBetween co bytes r v) first → IsTripleAt all co entry (option_map (triple_with r v) first)
first_at_entry all firsts numbered co entry bytes same n r v is next halves None none =
    λ l t b. none l b.w b.between_here (between_at all firsts numbered co entry bytes same n r v is next l t b)
first_at_entry all firsts numbered co entry bytes same n r v is next halves (Some w) (l, here, between, least) = (
  l,
  record {
    number = n;
    r = r;
    v = v;
    w = w;
    read_is = is;
    write_here = next;
    between_here = here;
    halves = halves;
    between = subst (λ (sources : List Source). ComesBetween co sources r v w) same between;
    named = refl;
  },
  (λ m s less b. least m b.w less b.between_here (between_at all firsts numbered co entry bytes same n r v is next m s b)),
)

-- the halves and what comes between them, at an entry of rf
pub triple_here : (all : List Access) (firsts : List ℕ) → AreNumbered all firsts → (co : List EventId) (entry : ReadFrom) (bytes : List Source) → bytes ≡ entry.bytes
    → (n : ℕ) (r v : Access) → IsNumbered all entry.read n r → slice_get all (n + 1) ≡ Some v → AreHalves r v
    → (found : Option Triple) → IsTripleOf all co bytes r v found → IsTripleAt all co entry found
triple_here all firsts numbered co entry bytes same n r v is next halves found (first, answer, found_is) =
    let At : Option Triple → Type 0 = λ t. IsTripleAt all co entry t in
    subst At (sym found_is) (first_at_entry all firsts numbered co entry bytes same n r v is next halves first answer)

-- where no access has the read's id, nothing comes between
pub whole_unread : (all : List Access) (co : List EventId) (entry : ReadFrom) → ((n : ℕ) (a : Access) → IsNumbered all entry.read n a → ⊥) → IsWhole all co entry
whole_unread all co entry none l t b = none b.number b.r b.read_is

-- where no access follows the read, nothing comes between
pub whole_last : (all : List Access) (firsts : List ℕ) → AreNumbered all firsts → (co : List EventId) (entry : ReadFrom) (n : ℕ) (r : Access) → IsNumbered all entry.read n r
    → slice_get all (n + 1) ≡ None → IsWhole all co entry
whole_last all firsts numbered co entry n r is none l t b =
    let number = same_number all firsts numbered entry.read b.number n b.r r b.read_is is in
    let moved = subst (λ (k : ℕ). slice_get all (k + 1) ≡ Some b.v) number b.write_here in
    absurd cc

-- where the read and the access after it are no halves, nothing comes between
pub whole_apart : (all : List Access) (firsts : List ℕ) → AreNumbered all firsts → (co : List EventId) (entry : ReadFrom) (n : ℕ) (r v : Access) → IsNumbered all entry.read n r
    → slice_get all (n + 1) ≡ Some v → (AreHalves r v → ⊥) → IsWhole all co entry
whole_apart all firsts numbered co entry n r v is next apart l t b =
    let number = same_number all firsts numbered entry.read b.number n b.r r b.read_is is in
    let read_moved = subst (λ (k : ℕ). slice_get all k ≡ Some b.r) number b.read_is.here in
    let is_here = is.here in
    let read : b.r ≡ r = cc in
    let write_moved = subst (λ (k : ℕ). slice_get all (k + 1) ≡ Some b.v) number b.write_here in
    let write : b.v ≡ v = cc in
    apart (subst (λ (a : Access). AreHalves a v) read (subst (λ (a : Access). AreHalves b.r a) write b.halves))

-- a write has a slot at each of its bytes, at its place in co
pub found_slot : (all : List Access) (co : List EventId) (slots : List Slot) → Gains (Below co (IsCoTarget all) (length co)) [] slots → (n place : ℕ) (w : Access)
    → slice_get all n ≡ Some w → slice_get co place ≡ Some w.id → (k : ℕ) → k < w.size → StandsIn slots (record { key = key (w.address + k) w.id.thread place; event = n })
found_slot all co slots gains n place w here listed k within =
    (gains.told _).1 (inr (place, w.id, place_below co place w.id listed, listed, (n, w, record { here = here; named = refl }, (k, within, refl))))

-- a sorted list has gained the same
pub gains_sorted : {X : Type 0} (P : X → Type 0) (old mid new : List X) → old ≡ [] → Gains P old mid → ((x : X) → StandsIn new x ↔ StandsIn mid x) → Gains P [] new
gains_sorted {X} P old mid new empty gains same = record {
  told = λ x. (
    (λ there. let StandsHere : List X → Type 0 = λ l. StandsIn l x in
        elim ((gains.told x).0 ((same x).0 there)) [ inl before ↦ inl (subst StandsHere empty before) | inr holds ↦ inr holds ]),
    (λ either. elim either [ inl before ↦ absurd (nowhere x before) | inr holds ↦ (same x).1 ((gains.told x).1 (inr holds)) ]),
  );
} where
  nowhere : (x : X) → StandsIn [] x → ⊥
  nowhere x (i, here) = absurd cc
