-- What the slots of bytes rest on.
use Rattle.std.proofs.Common.{◌≡◌, ◌≢◌, ◌+◌, ◌++◌, ℕ, Bool, true, List, [], ◌∷◌, set, Some, ◌⊎◌, inl, inr, sym, subst, ◌∙◌, arith}
use Rattle.std.specs.List.{slice_get}
use Rattle.std.proofs.lemmas.Bool.{cases_lt}
use Rattle.std.proofs.lemmas.List.{length-set}
use Rattle.ev_graph.specs.declared.events.Access.{Access}
use Rattle.ev_graph.specs.declared.events.EventId.{EventId}
use Rattle.ev_graph.specs.Places.{IsDistinct}
use Rattle.topo.proofs.Places.{get-set_same, get-set_other}
use Rattle.axiom_check.specs.declared.lanes.Slot.{Slot}
use Rattle.axiom_check.specs.Gains.{Gains}
use Rattle.axiom_check.specs.Numbers.{AreNumbered, IsEdgeOf, IsNumbered}
use Rattle.ev_graph.specs.declared.execution.Source.{Source}
use Rattle.ev_graph.specs.declared.execution.Source.TheVariants.{Start, From}
use Rattle.topo.specs.declared.edge.Edge.{Edge}
use Rattle.axiom_check.specs.Bytes.{ArePlaces, IsByteEdge, IsFrom, IsOfNumbered, IsReadSource, IsSourceAt}
use Rattle.axiom_check.proofs.GainsLemmas.{gains_none, gains_push, gains_as}
use Rattle.axiom_check.proofs.LanesLemmas.{place_below}
use Rattle.axiom_check.proofs.NumberLemmas.{same_number}

-- one slot is gained
pub gains_slot : (key made event : ℕ) (old new : List Slot) → made ≡ key → new ≡ old ++ record { key = made; event = event } ∷ []
    → Gains (λ s. s ≡ record { key = key; event = event }) old new
gains_slot key made event old new same is =
    let Is : ℕ → Slot → Type 0 = λ k s. s ≡ record { key = k; event = event } in
    subst (λ (k : ℕ). Gains (Is k) old new) same (gains_push (Is made) old new _ is (λ s. ((λ e. e), (λ e. e))))

-- what is gained for the access that was found is gained for the id
pub gains_found : (all : List Access) (firsts : List ℕ) → AreNumbered all firsts → (id : EventId) (n : ℕ) (a : Access) (F : ℕ → Access → Slot → Type 0) (old new : List Slot)
    → IsNumbered all id n a → Gains (F n a) old new → Gains (IsOfNumbered all id F) old new
gains_found all firsts numbered id n a F old new found gains =
    gains_as (F n a) (IsOfNumbered all id F) old new gains
    (λ s holds. (n, a, found, holds))
    (λ s (m, b, other, holds).
    let number = same_number all firsts numbered id m n b a other found in
    let moved = subst (λ (k : ℕ). slice_get all k ≡ Some b) number other.here in
    let here = found.here in
    let access : b ≡ a = cc in
    subst (λ (k : ℕ). F k a s) number (subst (λ (c : Access). F m c s) access holds))

pub gains_not_found : (all : List Access) (id : EventId) (F : ℕ → Access → Slot → Type 0) (xs : List Slot)
    → ((n : ℕ) (a : Access) → IsNumbered all id n a → ⊥) → Gains (IsOfNumbered all id F) xs xs
gains_not_found all id F xs none = gains_none (IsOfNumbered all id F) xs (λ s (n, a, is, holds). none n a is)

pub place_set : (all : List Access) (firsts : List ℕ) → AreNumbered all firsts → (co : List EventId) (place : ℕ) (id : EventId) (n behind : ℕ) (a : Access) (places : List ℕ)
    → IsDistinct co → slice_get co place ≡ Some id → behind ≡ place + 1 → IsNumbered all id n a → ArePlaces all co place places → ArePlaces all co (place + 1) (set places n behind)
place_set all firsts numbered co place id n behind a places once here is found before = record {
  size = length-set places n behind ∙ before.size;
  told = λ i other m b less there is_other. elim (cases_lt i place) [
    | inl earlier ↦ (let kept = before.told i other m b earlier there is_other in
        let apart : m ≢ n = λ same. (
        let moved = subst (λ (k : ℕ). slice_get all k ≡ Some b) same is_other.here in
        let found_here = found.here in
        let access : b ≡ a = cc in
        let named = found.named in
        let other_named = is_other.named in
        let ids : other ≡ id = cc in
        let place_is : i ≡ place = once i place id (subst (λ (e : EventId). slice_get co i ≡ Some e) ids there) here in
        omega arith) in
        rw (get-set_other places n m behind apart) kept)
    | inr later ↦ (let place_is : i ≡ place = omega arith in
        let moved = subst (λ (k : ℕ). slice_get co k ≡ Some other) place_is there in
        let ids : other ≡ id = cc in
        let number = same_number all firsts numbered id m n b a (subst (λ (e : EventId). IsNumbered all e m b) ids is_other) found in
        let size = before.size in
        let within = place_below all n a found.here in
        let same = get-set_same places n behind (omega arith) in
        let value : behind ≡ i + 1 = omega arith in
        subst (λ (k : ℕ). slice_get (set places n behind) k ≡ Some (i + 1)) (sym number) (subst (λ (v : ℕ). slice_get (set places n behind) n ≡ Some v) value same))
  ];
}

pub place_kept : (all : List Access) (co : List EventId) (place : ℕ) (id : EventId) (places : List ℕ)
    → slice_get co place ≡ Some id → ((n : ℕ) (a : Access) → IsNumbered all id n a → ⊥) → ArePlaces all co place places → ArePlaces all co (place + 1) places
place_kept all co place id places here none before = record {
  size = before.size;
  told = λ i other m b less there is_other. elim (cases_lt i place) [
    | inl earlier ↦ before.told i other m b earlier there is_other
    | inr later ↦ (let place_is : i ≡ place = omega arith in
        let moved = subst (λ (k : ℕ). slice_get co k ≡ Some other) place_is there in
        let ids : other ≡ id = cc in
        absurd (none m b (subst (λ (e : EventId). IsNumbered all e m b) ids is_other)))
  ];
}

-- a source has one place from which on it is overwritten
same_from : (co : List EventId) → IsDistinct co → (source : Source) (one other : ℕ) → IsFrom co source one → IsFrom co source other → one ≡ other
same_from co once Start one other first second = cc
same_from co once (From w) one other (i, here, is) (j, there, also) = let same = once i j w here there in omega arith

pub gains_from : (co : List EventId) → IsDistinct co → (within : Bool) (threads n : ℕ) (a : Access) (k : ℕ) (source : Source) (place : ℕ) (old new : List Slot)
    → IsFrom co source place → Gains (IsSourceAt within threads a.id.thread n (a.address + k) place) old new → Gains (IsReadSource co within threads n a k source) old new
gains_from co once within threads n a k source place old new from gains =
    gains_as (IsSourceAt within threads a.id.thread n (a.address + k) place) (IsReadSource co within threads n a k source) old new gains
    (λ s holds. (place, from, holds))
    (λ s (other, also, holds). let same = same_from co once source other place also from in
    subst (λ (p : ℕ). IsSourceAt within threads a.id.thread n (a.address + k) p s) same holds)

pub byte_edge : (all : List Access) (within : Bool) (read : EventId) (k : ℕ) (source : Source) (w : EventId) (old new : List Edge) → source ≡ From w
    → ((within ≡ true) ⊎ (w.thread ≢ read.thread)) → Gains (IsEdgeOf all w read) old new → Gains (IsByteEdge all within read k source) old new
byte_edge all within read k source w old new is kept gains =
    let Goal : Source → Type 0 = λ s. Gains (IsByteEdge all within read k s) old new in
    subst Goal (sym is) (gains_as (IsEdgeOf all w read) (IsByteEdge all within read k (From w)) old new gains (λ e edge. (kept, edge)) (λ e both. both.1))

pub byte_no_edge : (all : List Access) (within : Bool) (read : EventId) (k : ℕ) (source : Source) (w : EventId) (edges : List Edge) → source ≡ From w
    → (((within ≡ true) ⊎ (w.thread ≢ read.thread)) → ⊥) → Gains (IsByteEdge all within read k source) edges edges
byte_no_edge all within read k source w edges is dropped =
    let Goal : Source → Type 0 = λ s. Gains (IsByteEdge all within read k s) edges edges in
    subst Goal (sym is) (gains_none (IsByteEdge all within read k (From w)) edges (λ e both. dropped both.0))
