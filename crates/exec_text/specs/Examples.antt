-- Two executions whose texts are known.
use Rattle.std.specs.Prelude.{ℕ, ◌+◌, ◌-◌, ◌*◌, true, false, [], ◌∷◌}
use Rattle.ev_graph.specs.declared.events.Access.{Access}
use Rattle.ev_graph.specs.declared.events.AccessKind.TheVariants.{Read, Write}
use Rattle.ev_graph.specs.declared.events.End.TheVariants.{Running, Halted}
use Rattle.ev_graph.specs.declared.events.FenceKind.TheVariants.{Mfence}
use Rattle.ev_graph.specs.declared.events.Item.TheVariants as item
use Rattle.ev_graph.specs.declared.execution.Execution.{Execution}
use Rattle.ev_graph.specs.declared.execution.ReadFrom.{ReadFrom}
use Rattle.ev_graph.specs.declared.execution.Source.TheVariants.{Start, From}
use Rattle.ev_graph.specs.declared.execution.ThreadRun.{ThreadRun}

-- store buffering: thread t writes 1 to one cell
abbrev pub sb_write : ℕ → Access
sb_write t = record { id = record { thread = t; index = 0 }; kind = Write; locked = false; address = 0x404000 + 8 * t; size = 8; value = 1; place = 0x40100f + 22 * t }

-- and reads the start of the other's
abbrev pub sb_read : ℕ → Access
sb_read t = record { id = record { thread = t; index = 1 }; kind = Read; locked = false; address = 0x404008 - 8 * t; size = 8; value = 0; place = 0x401012 + 22 * t }

-- the two accesses of a thread, whose run is cut behind them
abbrev pub sb_thread : ℕ → ThreadRun
sb_thread t = record { items = item.Access (sb_write t) ∷ item.Access (sb_read t) ∷ []; end = Running }

-- all 8 bytes come from the start
abbrev pub sb_entry : ℕ → ReadFrom
sb_entry t = record { read = record { thread = t; index = 1 }; bytes = Start ∷ Start ∷ Start ∷ Start ∷ Start ∷ Start ∷ Start ∷ Start ∷ [] }

-- the execution: two threads, and each reads the start
abbrev pub store_buffering : Execution
store_buffering = record {
  stacks = record { lo = 0x700000; hi = 0x710000 } ∷ record { lo = 0x710000; hi = 0x720000 } ∷ [];
  threads = sb_thread 0 ∷ sb_thread 1 ∷ [];
  rf = sb_entry 0 ∷ sb_entry 1 ∷ [];
  co = record { thread = 0; index = 0 } ∷ record { thread = 1; index = 0 } ∷ [];
  rmw = [];
}

-- one thread with an item of each form: access n of its 3 is a locked read, the locked write after it, or a read of two bytes
abbrev pub form_read : Access
form_read = record { id = record { thread = 0; index = 0 }; kind = Read; locked = true; address = 0x404000; size = 1; value = 0; place = 0x40100c }

-- the locked write
abbrev pub form_write : Access
form_write = record { id = record { thread = 0; index = 1 }; kind = Write; locked = true; address = 0x404000; size = 1; value = 1; place = 0x40100c }

-- the read of two bytes: one that was written, and one from the start
abbrev pub form_wide : Access
form_wide = record { id = record { thread = 0; index = 2 }; kind = Read; locked = false; address = 0x404000; size = 2; value = 1; place = 0x401013 }

-- the items, with an input, a fence and an output
abbrev pub form_thread : ThreadRun
form_thread = record {
  items = item.Input (record { value = 0x2a; place = 0x401000 }) ∷ item.Access form_read ∷ item.Access form_write ∷ item.Fence (record { kind = Mfence; place = 0x401010 })
      ∷ item.Access form_wide ∷ item.Output (record { value = 0x2a; place = 0x401017 }) ∷ [];
  end = Halted;
}

-- the execution of that thread alone
abbrev pub every_form : Execution
every_form = record {
  stacks = record { lo = 0x700000; hi = 0x710000 } ∷ [];
  threads = form_thread ∷ [];
  rf = record { read = form_read.id; bytes = Start ∷ [] } ∷ record { read = form_wide.id; bytes = From form_write.id ∷ Start ∷ [] } ∷ [];
  co = form_write.id ∷ [];
  rmw = record { first = form_read.id; second = form_write.id } ∷ [];
}
