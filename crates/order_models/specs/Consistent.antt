-- Consistency of an execution under an order, by three axioms. The same pairs, by their kinds, are what a cycle is made of.
use Rattle.std.specs.Prelude.{◌≡◌, Bool, true, List}
use Rattle.ev_graph.specs.declared.execution.Execution.{Execution}
use Rattle.ev_graph.specs.declared.execution.ThreadRun.{ThreadRun}
use Rattle.ev_graph.specs.Events.{Event, IsIn, items_of}
use Rattle.ev_graph.specs.Pairs.{Po, PoLoc, External, Rf, Co, Fr, Rmw}
use Rattle.ev_graph.specs.Cycle.{Acyclic}
use Rattle.order_models.specs.declared.edge.EdgeKind.{EdgeKind}
use Rattle.order_models.specs.declared.edge.EdgeKind.TheVariants as edge
use Rattle.order_models.specs.Orders.{Order}

-- a pair that the order keeps within a thread, for the reason of this kind
pub record Local (order : Order) (threads : List ThreadRun) (kind : EdgeKind) (a b : Event) : Type 0 where
  pub po : Po a b
  pub holds : order kind (items_of threads a.id.thread) a.id.index b.id.index

-- the pairs of one location, by kind
abbrev pub InternalPair : Execution → EdgeKind → Event → Event → Type 0
InternalPair x edge.Po a b = PoLoc a b
InternalPair x edge.Rf a b = Rf x.rf a b
InternalPair x edge.Co a b = Co x.co a b
InternalPair x edge.Fr a b = Fr x.rf x.co a b
InternalPair x _ a b = ⊥

-- the two are of one thread
abbrev pub IsWithin : Event → Event → Type 0
IsWithin a b = a.id.thread ≡ b.id.thread

-- The pairs of all locations, by kind: what the order keeps within a thread, and rf, fr and co between threads.
-- Where `within` is true, fr and co within a thread belong to them too.
abbrev pub ExternalPair : Order → Bool → Execution → EdgeKind → Event → Event → Type 0
ExternalPair order within x edge.Co a b = (within ≡ true) × IsWithin a b × Co x.co a b
ExternalPair order within x edge.Fr a b = (within ≡ true) × IsWithin a b × Fr x.rf x.co a b
ExternalPair order within x edge.Rfe a b = External a b × Rf x.rf a b
ExternalPair order within x edge.Fre a b = External a b × Fr x.rf x.co a b
ExternalPair order within x edge.Coe a b = External a b × Co x.co a b
ExternalPair order within x kind a b = Local order x.threads kind a b

-- a pair of some kind
abbrev pub SomeKind : (EdgeKind → Event → Event → Type 0) → Event → Event → Type 0
SomeKind pair a b = (kind : EdgeKind) × pair kind a b

-- no write of another thread comes between the halves of an atomic instruction
abbrev pub Atomic : Execution → Type 0
Atomic x = (r w v : Event) → IsIn x.threads r → IsIn x.threads w → IsIn x.threads v
    → Rmw x.rmw r v → External r w → Fr x.rf x.co r w → External w v → Co x.co w v → ⊥

-- An execution that the order allows. x86-TSO is Consistent Tso true, the intermediate form Consistent Limm false, and Armv8
-- Consistent Arm false.
pub record Consistent (order : Order) (within : Bool) (x : Execution) : Type 0 where
  pub internal : Acyclic x.threads (SomeKind (InternalPair x))
  pub atomic : Atomic x
  pub external : Acyclic x.threads (SomeKind (ExternalPair order within x))
