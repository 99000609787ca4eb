-- The names of the accesses of an execution.
use Rattle.std.specs.Prelude.{ℕ, suc, List, [], ◌∷◌}
use Rattle.ev_graph.specs.declared.events.Item.{Item}
use Rattle.ev_graph.specs.declared.events.Item.TheVariants as items

-- Items in trees and runs carry the id of thread 0 and index 0. In an execution each access of a thread carries the
-- thread and how many accesses stand before it; here counting goes on from `index`.
abbrev pub numbered_from : (thread index : ℕ) → List Item → List Item
numbered_from thread index [] = []
numbered_from thread index (items.Access a ∷ is) =
    items.Access (record a { id = record { thread = thread; index = index } }) ∷ numbered_from thread (suc index) is
numbered_from thread index (items.Fence f ∷ is) = items.Fence f ∷ numbered_from thread index is
numbered_from thread index (items.Input t ∷ is) = items.Input t ∷ numbered_from thread index is
numbered_from thread index (items.Output t ∷ is) = items.Output t ∷ numbered_from thread index is

-- a thread's items with the names of its accesses
abbrev pub numbered : (thread : ℕ) → List Item → List Item
numbered thread is = numbered_from thread 0 is
