-- Message passing (Sewell et al., CACM 2010; Arm ARM DDI 0487, chapter B2): one thread writes a byte of data and then a
-- flag, the other reads the flag and then the data, and finds the flag written but the data as at the start.
use Rattle.std.specs.Prelude.{false, List, [], ◌∷◌, Option, Some, None}
use Rattle.ev_graph.specs.declared.events.Access.{Access}
use Rattle.ev_graph.specs.declared.events.AccessKind.TheVariants.{Read, Write}
use Rattle.ev_graph.specs.declared.events.End.TheVariants.{Halted}
use Rattle.ev_graph.specs.declared.events.FenceKind.{FenceKind}
use Rattle.ev_graph.specs.declared.events.Item.{Item}
use Rattle.ev_graph.specs.declared.events.Item.TheVariants as item
use Rattle.ev_graph.specs.declared.execution.Execution.{Execution}
use Rattle.ev_graph.specs.declared.execution.ReadFrom.{ReadFrom}
use Rattle.ev_graph.specs.declared.execution.Source.TheVariants.{Start, From}

-- thread 0 writes 1 to the data, the byte at 4096
abbrev pub write_data : Access
write_data = record {
  id = record { thread = 0; index = 0 };
  kind = Write;
  locked = false;
  address = 4096;
  size = 1;
  value = 1;
  place = 0;
}

-- and then 1 to the flag, the byte at 4097
abbrev pub write_flag : Access
write_flag = record {
  id = record { thread = 0; index = 1 };
  kind = Write;
  locked = false;
  address = 4097;
  size = 1;
  value = 1;
  place = 4;
}

-- thread 1 reads 1 from the flag
abbrev pub read_flag : Access
read_flag = record {
  id = record { thread = 1; index = 0 };
  kind = Read;
  locked = false;
  address = 4097;
  size = 1;
  value = 1;
  place = 0;
}

-- and then 0 from the data
abbrev pub read_data : Access
read_data = record {
  id = record { thread = 1; index = 1 };
  kind = Read;
  locked = false;
  address = 4096;
  size = 1;
  value = 0;
  place = 4;
}

-- two accesses, with or without a fence between
abbrev pub items_around : Access → Access → Option FenceKind → List Item
items_around first second None = item.Access first ∷ item.Access second ∷ []
items_around first second (Some kind) =
    item.Access first ∷ item.Fence (record { kind = kind; place = 2 }) ∷ item.Access second ∷ []

-- the read of the flag finds the write of the flag
abbrev pub flag_entry : ReadFrom
flag_entry = record { read = record { thread = 1; index = 0 }; bytes = From (record { thread = 0; index = 1 }) ∷ [] }

-- the read of the data finds the start
abbrev pub data_entry : ReadFrom
data_entry = record { read = record { thread = 1; index = 1 }; bytes = Start ∷ [] }

-- The execution, with maybe a fence between the writes and maybe one between the reads. Both bytes lie in the stack of
-- thread 0.
abbrev pub message_passing : Option FenceKind → Option FenceKind → Execution
message_passing between_writes between_reads = record {
  stacks = record { lo = 4096; hi = 8192 } ∷ record { lo = 8192; hi = 12288 } ∷ [];
  threads = record { items = items_around write_data write_flag between_writes; end = Halted }
      ∷ record { items = items_around read_flag read_data between_reads; end = Halted } ∷ [];
  rf = flag_entry ∷ data_entry ∷ [];
  co = record { thread = 0; index = 0 } ∷ record { thread = 0; index = 1 } ∷ [];
  rmw = [];
}
