-- The items of a thread, and the accesses of all threads.
use Rattle.std.proofs.Common.{◌≡◌, ℕ, zero, suc, List, [], ◌∷◌, Some, None, refl, ap}
use Rattle.std.specs.List.{slice_get}
use Rattle.ev_graph.specs.declared.execution.ThreadRun.{ThreadRun}
use Rattle.ev_graph.specs.Events.{items_of}

pub items_of_some : (threads : List ThreadRun) (t : ℕ) (thread : ThreadRun) → slice_get threads t ≡ Some thread → items_of threads t ≡ thread.items
items_of_some [] t thread here = absurd cc
items_of_some (first ∷ threads) zero thread here = let same : first ≡ thread = cc in ap (λ (run : ThreadRun). run.items) same
items_of_some (first ∷ threads) (suc t) thread here = items_of_some threads t thread here

pub items_of_none : (threads : List ThreadRun) (t : ℕ) → slice_get threads t ≡ None → items_of threads t ≡ []
items_of_none [] t here = refl
items_of_none (first ∷ threads) zero here = absurd cc
items_of_none (first ∷ threads) (suc t) here = items_of_none threads t here
