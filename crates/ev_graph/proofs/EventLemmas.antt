-- Events of threads, by their ids and numbers, and their overlaps.
use Rattle.std.proofs.Common.{◌≡◌, ◌+◌, ℕ, List, Option, Some, None, IsSomeAnd, sym, ap, subst, refl, arith}
use Rattle.std.specs.List.{slice_get}
use Rattle.std.specs.Option.{option_map}
use Rattle.std.proofs.lemmas.Option.{slice_get-map}
use Rattle.ev_graph.specs.declared.events.Access.{Access}
use Rattle.ev_graph.specs.declared.events.EventId.{EventId}
use Rattle.ev_graph.specs.declared.execution.ReadFrom.{ReadFrom}
use Rattle.ev_graph.specs.declared.execution.ThreadRun.{ThreadRun}
use Rattle.ev_graph.specs.Events.{Event, event, events, accesses, items_of, IsAccessOf, IsIn, Overlap}
use Rattle.ev_graph.specs.Pairs.{External, Fr}
use Rattle.ev_graph.specs.WellFormed.{IsIndexed}

-- an id has one event
pub same_event : (threads : List ThreadRun) (a b : Event) → IsIn threads a → IsIn threads b → a.id ≡ b.id → a ≡ b
same_event threads a b in_a in_b same =
    let at : EventId → Option Event = λ id. slice_get (events (items_of threads id.thread)) id.index in
    let moved = ap at same in
    cc

-- what holds of an event holds of the access with its number
pub at_number : (P : Event → Type 0) (threads : List ThreadRun) (t : ℕ) (a : Event) → t ≡ a.id.thread → IsIn threads a → P a
    → IsSomeAnd (slice_get (events (items_of threads t)) a.id.index) P
at_number P threads t a same in_a holds =
    let At : ℕ → Type 0 = λ thread. IsSomeAnd (slice_get (events (items_of threads thread)) a.id.index) P in
    let Of : Option Event → Type 0 = λ o. IsSomeAnd o P in
    subst At (sym same) (subst Of (sym in_a) holds)

-- what holds of the access with an event's number holds of the event
pub from_number : (P : Event → Type 0) (threads : List ThreadRun) (t : ℕ) (a : Event) → t ≡ a.id.thread → IsIn threads a
    → IsSomeAnd (slice_get (events (items_of threads t)) a.id.index) P → P a
from_number P threads t a same in_a holds =
    let At : ℕ → Type 0 = λ thread. IsSomeAnd (slice_get (events (items_of threads thread)) a.id.index) P in
    let Of : Option Event → Type 0 = λ o. IsSomeAnd o P in
    subst Of in_a (subst At same holds)

-- an event is an access of the threads
pub access_of : (threads : List ThreadRun) (a : Event) → IsIn threads a → (access : Access) × IsAccessOf threads a.id access × (event access ≡ a)
access_of threads a in_a =
    let all = accesses (items_of threads a.id.thread) in
    let Goal : Option Access → Type 0 = λ o. slice_get all a.id.index ≡ o → (access : Access) × IsAccessOf threads a.id access × (event access ≡ a) in
    let mapped = slice_get-map event all a.id.index in
    let cases : Goal (slice_get all a.id.index) = elim (slice_get all a.id.index) as Goal [
      | Some access ↦ (λ is. (access, is, (let at = ap (option_map event) is in cc)))
      | None ↦ (λ is. absurd (let at = ap (option_map event) is in cc))
    ] in
    cases refl

-- an access is an event, where ids are right
pub access_in : (threads : List ThreadRun) → IsIndexed threads → (id : EventId) (a : Access) → IsAccessOf threads id a → IsIn threads (event a) × (a.id ≡ id)
access_in threads indexed id a found =
    let same : a.id ≡ id = indexed id.thread id.index a found in
    let all = accesses (items_of threads id.thread) in
    let mapped = slice_get-map event all id.index in
    let here : slice_get (events (items_of threads id.thread)) id.index ≡ Some (event a) = let at = ap (option_map event) found in cc in
    let At : EventId → Type 0 = λ other. slice_get (events (items_of threads other.thread)) other.index ≡ Some (event a) in
    (subst At (sym same) here, same)

pub overlap_sym : (a b : Event) → Overlap a b → Overlap b a
overlap_sym a b (n, in_a, in_b) = (n, in_b, in_a)

pub external_sym : (a b : Event) → External a b → External b a
external_sym a b apart same = apart (sym same)

-- a read overlaps what overwrites it
pub fr_overlap : (rf : List ReadFrom) (co : List EventId) (r w : Event) → Fr rf co r w → Overlap r w
fr_overlap rf co r w from = (r.address + from.k, (omega arith, let within = from.within in omega arith), from.covers)
