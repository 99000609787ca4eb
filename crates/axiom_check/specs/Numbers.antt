-- The events of an execution by number: the accesses of all threads, thread by thread.
use Rattle.std.specs.Prelude.{◌≡◌, ◌+◌, ℕ, List, [], ◌∷◌, length, slice_get, Some}
use Rattle.ev_graph.specs.declared.events.Access.{Access}
use Rattle.ev_graph.specs.declared.events.EventId.{EventId}
use Rattle.ev_graph.specs.declared.execution.ThreadRun.{ThreadRun}
use Rattle.ev_graph.specs.Events.{Event, event, accesses}
use Rattle.topo.specs.declared.edge.Edge.{Edge}

-- the number of each thread's first access, where the first thread's is this
abbrev pub firsts_from : ℕ → List ThreadRun → List ℕ
firsts_from n [] = []
firsts_from n (thread ∷ threads) = n ∷ firsts_from (n + length (accesses thread.items)) threads

-- a relation between events, told of their numbers
pub record Told (all : List Access) (R : Event → Event → Type 0) (i j : ℕ) : Type 0 where
  pub first : Access
  pub second : Access
  pub first_there : slice_get all i ≡ Some first
  pub second_there : slice_get all j ≡ Some second
  pub pair : R (event first) (event second)

-- the access with this number has this id
pub record IsNumbered (all : List Access) (id : EventId) (number : ℕ) (a : Access) : Type 0 where
  pub here : slice_get all number ≡ Some a
  pub named : a.id ≡ id

-- each access's number is that of its thread's first and its own number there
pub record AreNumbered (all : List Access) (firsts : List ℕ) : Type 0 where
  pub told : (n : ℕ) (a : Access) → slice_get all n ≡ Some a → (first : ℕ) × (slice_get firsts a.id.thread ≡ Some first) × (n ≡ first + a.id.index)

-- an edge from the access with one id to the access with another
pub record IsEdgeOf (all : List Access) (first second : EventId) (e : Edge) : Type 0 where
  pub from : Access
  pub to : Access
  pub from_is : IsNumbered all first e.from from
  pub to_is : IsNumbered all second e.to to
