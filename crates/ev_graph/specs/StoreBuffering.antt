-- Store buffering (Sewell et al., CACM 2010): each of two threads writes one byte and then reads the other's, and both reads find the start.
use Rattle.std.specs.Prelude.{◌≡◌, ◌+◌, ◌-◌, ◌<◌, ℕ, false, List, [], ◌∷◌, Option, Some, None}
use Rattle.ev_graph.specs.declared.events.Access.{Access}
use Rattle.ev_graph.specs.declared.events.AccessKind.TheVariants.{Read, Write}
use Rattle.ev_graph.specs.declared.events.End.TheVariants.{Halted}
use Rattle.ev_graph.specs.declared.events.FenceKind.{FenceKind}
use Rattle.ev_graph.specs.declared.events.Item.{Item}
use Rattle.ev_graph.specs.declared.events.Item.TheVariants as item
use Rattle.ev_graph.specs.declared.execution.Execution.{Execution}
use Rattle.ev_graph.specs.declared.execution.ReadFrom.{ReadFrom}
use Rattle.ev_graph.specs.declared.execution.Source.TheVariants.{Start}
use Rattle.ev_graph.specs.declared.execution.ThreadRun.{ThreadRun}
use Rattle.ev_graph.specs.Events.{Event}

-- thread t writes 1 to the byte at 4096 + t
abbrev pub sb_write : ℕ → Access
sb_write t = record { id = record { thread = t; index = 0 }; kind = Write; locked = false; address = 4096 + t; size = 1; value = 1; place = 0 }

-- and then reads a value at 4097 - t
abbrev pub sb_read : ℕ → ℕ → Access
sb_read t value = record { id = record { thread = t; index = 1 }; kind = Read; locked = false; address = 4097 - t; size = 1; value = value; place = 4 }

-- the items of a thread, with or without a fence between
abbrev pub sb_items : ℕ → ℕ → Option FenceKind → List Item
sb_items t value None = item.Access (sb_write t) ∷ item.Access (sb_read t value) ∷ []
sb_items t value (Some kind) = item.Access (sb_write t) ∷ item.Fence (record { kind = kind; place = 2 }) ∷ item.Access (sb_read t value) ∷ []

abbrev pub sb_thread : ℕ → ℕ → Option FenceKind → ThreadRun
sb_thread t value fence = record { items = sb_items t value fence; end = Halted }

-- the read of a thread finds the start
abbrev pub sb_entry : ℕ → ReadFrom
sb_entry t = record { read = record { thread = t; index = 1 }; bytes = Start ∷ [] }

-- The execution, with this value read by both threads, and maybe a fence in each. Both bytes lie in the stack of thread 0.
abbrev pub store_buffering : ℕ → Option FenceKind → Execution
store_buffering value fence = record {
  stacks = record { lo = 4096; hi = 8192 } ∷ record { lo = 8192; hi = 12288 } ∷ [];
  threads = sb_thread 0 value fence ∷ sb_thread 1 value fence ∷ [];
  rf = sb_entry 0 ∷ sb_entry 1 ∷ [];
  co = record { thread = 0; index = 0 } ∷ record { thread = 1; index = 0 } ∷ [];
  rmw = [];
}

-- what is known of each write
pub record IsSbWrite (a : Event) : Type 0 where
  pub kind : a.kind ≡ Write
  pub index : a.id.index ≡ 0
  pub thread : a.id.thread < 2
  pub address : a.address ≡ 4096 + a.id.thread
  pub size : a.size ≡ 1
  pub unlocked : a.locked ≡ false

-- what is known of each read
pub record IsSbRead (a : Event) : Type 0 where
  pub kind : a.kind ≡ Read
  pub index : a.id.index ≡ 1
  pub thread : a.id.thread < 2
  pub address : a.address + a.id.thread ≡ 4097
  pub size : a.size ≡ 1
  pub unlocked : a.locked ≡ false
