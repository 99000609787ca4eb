-- A number that rises along each pair rules cycles out.
use Rattle.std.proofs.Common.{◌<◌, ℕ, List, [], ◌∷◌, arith}
use Rattle.ev_graph.specs.declared.execution.ThreadRun.{ThreadRun}
use Rattle.ev_graph.specs.Events.{Event, IsIn}
use Rattle.ev_graph.specs.Cycle.{Chain, Among, Acyclic}

chain_rises : (threads : List ThreadRun) (R : Event → Event → Type 0) (rank : Event → ℕ)
    → ((a b : Event) → IsIn threads a → IsIn threads b → R a b → rank a < rank b)
    → (a : Event) (via : List Event) (b : Event) → Chain (Among threads R) a via b → rank a < rank b
chain_rises threads R rank rises a [] b pair = rises a b pair.first pair.second pair.pair
chain_rises threads R rank rises a (v ∷ via) b (pair, rest) =
    let first = rises a v pair.first pair.second pair.pair in
    let later = chain_rises threads R rank rises v via b rest in
    omega arith

pub acyclic_by_rank : (threads : List ThreadRun) (R : Event → Event → Type 0) (rank : Event → ℕ)
    → ((a b : Event) → IsIn threads a → IsIn threads b → R a b → rank a < rank b) → Acyclic threads R
acyclic_by_rank threads R rank rises a via cycle = let less = chain_rises threads R rank rises a via a cycle in omega arith
