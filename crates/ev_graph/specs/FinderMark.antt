-- A place among a thread's items, remembered with the number of the access there.
use Rattle.std.specs.Prelude.{◌≡◌, ℕ, List}
use Rattle.ev_graph.specs.declared.execution.ThreadRun.{ThreadRun}
use Rattle.ev_graph.specs.Events.{accesses_before, items_of}

-- as many accesses of the thread stand before the place as the number says
abbrev pub IsMark : List ThreadRun → ℕ → ℕ → ℕ → Type 0
IsMark threads thread place number = accesses_before (items_of threads thread) place ≡ number
