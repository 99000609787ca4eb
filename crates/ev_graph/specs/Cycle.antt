-- Cycles of relations between the events of an execution.
use Rattle.std.specs.Prelude.{List, [], ◌∷◌}
use Rattle.ev_graph.specs.declared.execution.ThreadRun.{ThreadRun}
use Rattle.ev_graph.specs.Events.{Event, IsIn}

-- from a to b by the elements between, one after another
abbrev pub Chain : {A : Type 0} → (A → A → Type 0) → A → List A → A → Type 0
Chain R a [] b = R a b
Chain R a (v ∷ via) b = R a v × Chain R v via b

-- a pair of the relation whose ends are events of the threads
pub record Among (threads : List ThreadRun) (R : Event → Event → Type 0) (a b : Event) : Type 0 where
  pub first : IsIn threads a
  pub second : IsIn threads b
  pub pair : R a b

-- no event leads back to itself
abbrev pub Acyclic : List ThreadRun → (Event → Event → Type 0) → Type 0
Acyclic threads R = (a : Event) (via : List Event) → Chain (Among threads R) a via a → ⊥
