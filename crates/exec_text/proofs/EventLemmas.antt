-- Events, sources, and their limits.
use Rattle.std.proofs.Common.{◌≡◌, ℕ, ◌<◌, ◌≤◌, List, [], ◌∷◌, ◌++◌, length, codes, Err, arith}
use Rattle.std.specs.List.{AllByRecursion}
use Rattle.std.proofs.lemmas.List.{length_push}
use Rattle.ev_graph.specs.declared.events.EventId.{EventId}
use Rattle.ev_graph.specs.declared.execution.Source.{Source}
use Rattle.ev_graph.specs.declared.execution.Source.TheVariants.{Start, From}
use Rattle.exec_text.specs.declared.fault.TextKind.{TextKind}
use Rattle.exec_text.specs.declared.fault.TextKind.TheVariants.{Shape, Number}
use Rattle.exec_text.specs.Reading.{Tells}
use Rattle.exec_text.specs.Events.{IsEvent, IsSource, IsSmallEvent, IsSmallSource, AreSmallSources, IsSmallOrder}
use Rattle.exec_text.proofs.KeptLemmas.{HoldsOfFronts}

no_source : (text : List ℕ) → (text ≡ codes "init" → ⊥) → ((e : EventId) → IsEvent text e → ⊥) → (s : Source) → IsSource text s → ⊥
no_source text other none Start says = other says
no_source text other none (From e) says = none e says

-- why a text is no event is why it is no source, where it is not `init`
pub source_fault : (text : List ℕ) (kind : TextKind) → (text ≡ codes "init" → ⊥) → Tells {A = EventId} (IsEvent text) IsSmallEvent (Err kind) → Tells {A = Source} (IsSource text) IsSmallSource (Err kind)
source_fault text Shape other read = no_source text other read
source_fault text Number other read = (From read.0, read.1, read.2)

pub recursion-push : {A : Type 0} (P : A → Type 0) (xs : List A) (x : A) → AllByRecursion P xs → P x → AllByRecursion P (xs ++ x ∷ [])
recursion-push P [] x all one = (one, tt)
recursion-push P (y ∷ ys) x all one = (all.0, recursion-push P ys x all.1 one)

pub recursion-front : {A : Type 0} (P : A → Type 0) (xs : List A) (x : A) → AllByRecursion P (xs ++ x ∷ []) → AllByRecursion P xs × P x
recursion-front P [] x all = (tt, all.0)
recursion-front P (y ∷ ys) x all = let rest = recursion-front P ys x all.1 in ((all.0, rest.0), rest.1)

pub order_fronts : HoldsOfFronts IsSmallOrder
order_fronts events e small = (omega (arith, small.0, length_push events e), (recursion-front IsSmallEvent events e small.1).0)

pub source_fronts : HoldsOfFronts AreSmallSources
source_fronts sources s small = (recursion-front IsSmallSource sources s small).0

-- an order may have one event more
pub order_grows : (events : List EventId) (e : EventId) → length events < 4096 → IsSmallEvent e → IsSmallOrder events → IsSmallOrder (events ++ e ∷ [])
order_grows events e room one small = (omega (arith, room, length_push events e), recursion-push IsSmallEvent events e small.1 one)

-- it may not
pub order_full : (events : List EventId) (e : EventId) → 4096 ≤ length events → IsSmallOrder (events ++ e ∷ []) → ⊥
order_full events e full small = omega (arith, full, small.0, length_push events e)

pub order_beyond : (events : List EventId) (e : EventId) → (IsSmallEvent e → ⊥) → IsSmallOrder (events ++ e ∷ []) → ⊥
order_beyond events e beyond small = beyond (recursion-front IsSmallEvent events e small.1).1

-- sources may have one more
pub sources_grow : (sources : List Source) (s : Source) → IsSmallSource s → AreSmallSources sources → AreSmallSources (sources ++ s ∷ [])
sources_grow sources s one small = recursion-push IsSmallSource sources s small one

pub sources_beyond : (sources : List Source) (s : Source) → (IsSmallSource s → ⊥) → AreSmallSources (sources ++ s ∷ []) → ⊥
sources_beyond sources s beyond small = beyond (recursion-front IsSmallSource sources s small).1
