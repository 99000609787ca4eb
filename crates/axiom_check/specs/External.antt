-- What an execution is judged by, and its pairs of the axiom External as lanes.
use Rattle.std.specs.Prelude.{◌≡◌, ◌≤◌, ℕ, Bool, false, List, length, Some, slice_get, ◌⊎◌}
use Rattle.ev_graph.specs.declared.events.Access.{Access}
use Rattle.ev_graph.specs.declared.execution.Execution.{Execution}
use Rattle.ev_graph.specs.declared.execution.ReadFrom.{ReadFrom}
use Rattle.ev_graph.specs.declared.execution.Source.{Source}
use Rattle.ev_graph.specs.Events.{IsAccessOf}
use Rattle.ev_graph.specs.Faults.{MayGive}
use Rattle.ev_graph.specs.Places.{StandsIn, HasEachOnce}
use Rattle.ev_graph.specs.WellFormed.{IsShaped, EachAccess, all_accesses, write_ids}
use Rattle.order_models.specs.declared.doors.Door.{Door}
use Rattle.topo.specs.declared.edge.Edge.{Edge}
use Rattle.axiom_check.specs.declared.lanes.Slot.{Slot}
use Rattle.axiom_check.specs.Gains.{Below}
use Rattle.axiom_check.specs.Bytes.{IsCoSource, IsCoTarget, IsEntrySource, IsEntryEdge}
use Rattle.axiom_check.specs.Gates.{IsThreadSource, IsThreadTarget, IsThreadEdge}

-- An execution that can be judged: its ids, entries of rf and locked pairs are what its runs say, each source is the start or a write that covers
-- that byte, and co has each write once and nothing else. It has at most 16 threads and 4096 events, of 1 to 8 bytes each.
pub record IsJudgeable (x : Execution) : Type 0 where
  pub shaped : IsShaped x
  pub sources : (e : ReadFrom) (r : Access) (k : ℕ) (s : Source) → StandsIn x.rf e → IsAccessOf x.threads e.read r → slice_get e.bytes k ≡ Some s → MayGive x.threads r k s
  pub co : HasEachOnce x.co (write_ids x.threads)
  pub threads : length x.threads ≤ 16
  pub few : length (all_accesses x.threads) ≤ 4096
  pub sizes : EachAccess (λ a. (1 ≤ a.size) × (a.size ≤ 8)) x.threads

-- the sources of the lanes: writes in the order of co, reads by what they read from, and accesses by the doors
abbrev pub IsExternalSource : Execution → List Access → Bool → List Door → Slot → Type 0
IsExternalSource x all within doors slot =
    (Below x.co (IsCoSource all within (length x.threads)) (length x.co) slot ⊎ Below x.rf (IsEntrySource all x.co within (length x.threads)) (length x.rf) slot)
    ⊎ Below x.threads (IsThreadSource all doors) (length x.threads) slot

-- the targets of the lanes: writes in the order of co, and accesses by the doors
abbrev pub IsExternalTarget : Execution → List Access → List Door → Slot → Type 0
IsExternalTarget x all doors slot = Below x.co (IsCoTarget all) (length x.co) slot ⊎ Below x.threads (IsThreadTarget all doors) (length x.threads) slot

-- the pairs that are told one by one: rf between threads, and halves of atomic instructions
abbrev pub IsExternalEdge : Execution → List Access → List Door → Edge → Type 0
IsExternalEdge x all doors edge = Below x.rf (IsEntryEdge all false) (length x.rf) edge ⊎ Below x.threads (IsThreadEdge all doors) (length x.threads) edge
