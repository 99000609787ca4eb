-- Events by their numbers.
use Rattle.std.proofs.Common.{◌≡◌, ◌+◌, ◌++◌, ℕ, zero, suc, List, [], ◌∷◌, length, Some, ◌⊎◌, inl, inr, refl, sym, ap, subst, arith}
use Rattle.std.specs.List.{slice_get}
use Rattle.ev_graph.specs.declared.events.Access.{Access}
use Rattle.ev_graph.specs.declared.events.EventId.{EventId}
use Rattle.ev_graph.specs.declared.execution.ThreadRun.{ThreadRun}
use Rattle.ev_graph.specs.Events.{accesses, items_of}
use Rattle.ev_graph.specs.WellFormed.{all_accesses, IsIndexed}
use Rattle.topo.specs.declared.edge.Edge.{Edge}
use Rattle.axiom_check.specs.Gains.{Gains}
use Rattle.axiom_check.specs.Numbers.{firsts_from, AreNumbered, IsEdgeOf, IsNumbered}
use Rattle.axiom_check.proofs.GainsLemmas.{gains_push}
use Rattle.axiom_check.proofs.LanesLemmas.{edge_is}

-- an element of two lists joined stands in the first or in the second
pub get_cases : {X : Type 0} (xs ys : List X) (n : ℕ) (x : X) → slice_get (xs ++ ys) n ≡ Some x
    → (slice_get xs n ≡ Some x) ⊎ ((m : ℕ) × (n ≡ length xs + m) × (slice_get ys m ≡ Some x))
get_cases [] ys n x here = inr (n, omega arith, here)
get_cases (y ∷ xs) ys zero x here = inl here
get_cases (y ∷ xs) ys (suc n) x here = elim (get_cases xs ys n x here) [
  | inl first ↦ inl first
  | inr (m, is, there) ↦ inr (m, (omega arith), there)
]

-- where an access of all threads stands
record Stand (threads : List ThreadRun) (base n : ℕ) (a : Access) : Type 0 where
  thread : ℕ
  index : ℕ
  first : ℕ
  here : slice_get (accesses (items_of threads thread)) index ≡ Some a
  begins : slice_get (firsts_from base threads) thread ≡ Some first
  number : base + n ≡ first + index

stand : (threads : List ThreadRun) (base n : ℕ) (a : Access) → slice_get (all_accesses threads) n ≡ Some a → Stand threads base n a
stand [] base n a here = absurd cc
stand (thread ∷ threads) base n a here = elim (get_cases (accesses thread.items) (all_accesses threads) n a here) [
  | inl own ↦ record { thread = 0; index = n; first = base; here = own; begins = refl; number = refl }
  | inr (m, is, there) ↦ (let rest = stand threads (base + length (accesses thread.items)) m a there in
      let number = rest.number in
      record { thread = suc rest.thread; index = rest.index; first = rest.first; here = rest.here; begins = rest.begins; number = omega arith })
]

-- the table of all threads numbers them
pub are_numbered : (threads : List ThreadRun) (all : List Access) (firsts : List ℕ) → IsIndexed threads → all ≡ all_accesses threads → firsts ≡ firsts_from 0 threads
    → AreNumbered all firsts
are_numbered threads all firsts indexed same_all same_firsts = record {
  told = λ n a here.
      let at = stand threads 0 n a (subst (λ (l : List Access). slice_get l n ≡ Some a) same_all here) in
      let id : a.id ≡ record { thread = at.thread; index = at.index } = indexed at.thread at.index a at.here in
      let thread = ap {B = ℕ} (λ (i : EventId). i.thread) id in
      let index = ap {B = ℕ} (λ (i : EventId). i.index) id in
      let begins = at.begins in
      let number = at.number in
      (at.first, subst (λ (t : ℕ). slice_get firsts t ≡ Some at.first) (sym thread) (subst (λ (l : List ℕ). slice_get l at.thread ≡ Some at.first) (sym same_firsts) begins), (omega arith));
}

-- an id has one number
pub same_number : (all : List Access) (firsts : List ℕ) → AreNumbered all firsts → (id : EventId) (m n : ℕ) (a b : Access)
    → IsNumbered all id m a → IsNumbered all id n b → m ≡ n
same_number all firsts numbered id m n a b first second =
    let one = numbered.told m a first.here in
    let two = numbered.told n b second.here in
    let one_named = first.named in
    let two_named = second.named in
    let same : a.id ≡ b.id = cc in
    let thread = ap {B = ℕ} (λ (i : EventId). i.thread) same in
    let index = ap {B = ℕ} (λ (i : EventId). i.index) same in
    let one_at = one.1 in
    let two_at = two.1 in
    let first_same : one.0 ≡ two.0 = (let moved = ap (λ (t : ℕ). slice_get firsts t) thread in cc) in
    omega arith

-- none of this id, where none is at its number
pub none_numbered : (all : List Access) (firsts : List ℕ) → AreNumbered all firsts → (id : EventId) (number : ℕ)
    → ((first : ℕ) → slice_get firsts id.thread ≡ Some first → number ≡ first + id.index)
    → ((a : Access) → slice_get all number ≡ Some a → a.id ≡ id → ⊥) → (n : ℕ) (a : Access) → IsNumbered all id n a → ⊥
none_numbered all firsts numbered id number at none n a is =
    let (first, begins, number_is) = numbered.told n a is.here in
    let thread = ap {B = ℕ} (λ (i : EventId). i.thread) is.named in
    let index = ap {B = ℕ} (λ (i : EventId). i.index) is.named in
    let begins_here = subst (λ (t : ℕ). slice_get firsts t ≡ Some first) thread begins in
    let same_here = at first begins_here in
    let same : n ≡ number = omega arith in
    none a (subst (λ (m : ℕ). slice_get all m ≡ Some a) same is.here) is.named

-- one edge is gained
pub edge_gained : (all : List Access) (firsts : List ℕ) → AreNumbered all firsts → (first second : EventId) (m n : ℕ) (a b : Access) (old new : List Edge)
    → IsNumbered all first m a → IsNumbered all second n b → new ≡ old ++ record { from = m; to = n } ∷ [] → Gains (IsEdgeOf all first second) old new
edge_gained all firsts numbered first second m n a b old new one two is =
    gains_push (IsEdgeOf all first second) old new _ is (λ e. (
      (λ edge. edge_is e m n (same_number all firsts numbered first e.from m edge.from a edge.from_is one) (same_number all firsts numbered second e.to n edge.to b edge.to_is two)),
      (λ same. let from = ap {B = ℕ} (λ (d : Edge). d.from) same in let to = ap {B = ℕ} (λ (d : Edge). d.to) same in
          record { from = a; to = b; from_is = subst (λ (k : ℕ). IsNumbered all first k a) (sym from) one; to_is = subst (λ (k : ℕ). IsNumbered all second k b) (sym to) two }),
    ))
