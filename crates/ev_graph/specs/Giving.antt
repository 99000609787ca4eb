-- What a source gives a byte of a read, and the parts of the list of faults.
use Rattle.std.specs.Prelude.{ℕ, List, [], ◌∷◌, map, filter, Option, Some, None, cond}
use Rattle.ev_graph.specs.declared.events.Access.{Access}
use Rattle.ev_graph.specs.declared.events.EventId.{EventId}
use Rattle.ev_graph.specs.declared.events.Item.{Item}
use Rattle.ev_graph.specs.declared.events.Item.TheVariants as item
use Rattle.ev_graph.specs.declared.execution.FormFault.{FormFault}
use Rattle.ev_graph.specs.declared.execution.FormFault.TheVariants.{BadSource, BadValue}
use Rattle.ev_graph.specs.declared.execution.Source.{Source}
use Rattle.ev_graph.specs.declared.execution.ThreadRun.{ThreadRun}
use Rattle.ev_graph.specs.declared.giving.Giving.{Giving}
use Rattle.ev_graph.specs.declared.giving.Giving.TheVariants.{SameByte, OtherByte, NoByte}
use Rattle.ev_graph.specs.Events.{accesses}
use Rattle.ev_graph.specs.WellFormed.{is_write, Gives}
use Rattle.ev_graph.specs.Faults.{MayGive}

-- the source gives byte k of the read, another byte, or none
abbrev pub IsGiving : (ℕ → Option ℕ) → List ThreadRun → Access → ℕ → Source → Giving → Type 0
IsGiving start threads r k s SameByte = MayGive threads r k s × Gives start threads r k s
IsGiving start threads r k s OtherByte = MayGive threads r k s × (Gives start threads r k s → ⊥)
IsGiving start threads r k s NoByte = MayGive threads r k s → ⊥

-- the fault of byte k of a read, by what its source gives
abbrev pub fault_of : Giving → EventId → ℕ → Option FormFault
fault_of SameByte read k = None
fault_of OtherByte read k = Some (BadValue (record { read = read; byte = k }))
fault_of NoByte read k = Some (BadSource (record { read = read; byte = k }))

-- the id of an item that is a write
abbrev pub item_writes : Item → List EventId
item_writes (item.Access a) = cond (is_write a.kind) (a.id ∷ []) []
item_writes other = []

-- the ids of the writes among items
abbrev pub thread_writes : List Item → List EventId
thread_writes items = map (λ a. a.id) (filter (λ a. is_write a.kind) (accesses items))
