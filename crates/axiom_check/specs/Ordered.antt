-- An order of an execution's accesses along the pairs of the axiom External.
use Rattle.std.specs.Prelude.{ℕ, Bool, List, map, Option, Some, None, slice_get}
use Rattle.ev_graph.specs.declared.events.Access.{Access}
use Rattle.ev_graph.specs.declared.events.EventId.{EventId}
use Rattle.ev_graph.specs.declared.execution.Execution.{Execution}
use Rattle.ev_graph.specs.declared.execution.ThreadRun.{ThreadRun}
use Rattle.ev_graph.specs.Cycle.{Chain, Among}
use Rattle.ev_graph.specs.Events.{Event}
use Rattle.ev_graph.specs.Places.{Earlier, HasEachOnce}
use Rattle.ev_graph.specs.WellFormed.{all_accesses}
use Rattle.order_models.specs.Consistent.{ExternalPair, SomeKind}
use Rattle.order_models.specs.Orders.{Order}

-- the ids of the accesses, by thread and then by number
abbrev pub access_ids : List ThreadRun → List EventId
access_ids threads = map (λ a. a.id) (all_accesses threads)

-- a pair of the axiom External, between events of the execution
abbrev pub IsExternalPair : Order → Bool → Execution → Event → Event → Type 0
IsExternalPair order within x a b = Among x.threads (SomeKind (ExternalPair order within x)) a b

-- each access once and nothing else, so that every pair of the axiom External goes forward
pub record IsEventOrder (order : Order) (within : Bool) (x : Execution) (ids : List EventId) : Type 0 where
  pub each : HasEachOnce ids (access_ids x.threads)
  pub forward : (a b : Event) → IsExternalPair order within x a b → Earlier ids a.id b.id

-- an event leads back to itself by pairs of the axiom External
abbrev pub HasExternalCycle : Order → Bool → Execution → Type 0
HasExternalCycle order within x = (a : Event) × (via : List Event) × Chain (IsExternalPair order within x) a via a

-- the id of an access that was looked up
abbrev pub id_of : Option Access → EventId
id_of (Some a) = a.id
id_of None = record { thread = 0; index = 0 }

-- the id of the access with this number
abbrev pub id_at : List Access → ℕ → EventId
id_at all number = id_of (slice_get all number)
