-- The faults of an execution, as requirements that fail, in the order in which they count.
use Rattle.std.specs.Prelude.{◌≡◌, ◌<◌, ◌+◌, ◌++◌, ℕ, List, [], ◌∷◌, map, flat_map, length, slice_get, Option, Some, None, ◌⊎◌}
use Rattle.std.specs.List.{range_with_len}
use Rattle.ev_graph.specs.declared.events.EventId.{EventId}
use Rattle.ev_graph.specs.declared.events.Access.{Access}
use Rattle.ev_graph.specs.declared.events.AccessKind.TheVariants.{Write}
use Rattle.ev_graph.specs.declared.execution.Execution.{Execution}
use Rattle.ev_graph.specs.declared.execution.FormFault.{FormFault}
use Rattle.ev_graph.specs.declared.execution.FormFault.TheVariants.{BadSource, BadValue, CoEntry, CoMissing}
use Rattle.ev_graph.specs.declared.execution.ReadByte.{ReadByte}
use Rattle.ev_graph.specs.declared.execution.ReadFrom.{ReadFrom}
use Rattle.ev_graph.specs.declared.execution.Source.{Source}
use Rattle.ev_graph.specs.declared.execution.Source.TheVariants.{Start, From}
use Rattle.ev_graph.specs.declared.execution.ThreadRun.{ThreadRun}
use Rattle.ev_graph.specs.Memory.{Cell}
use Rattle.ev_graph.specs.Start.{start_at}
use Rattle.ev_graph.specs.Places.{StandsIn}
use Rattle.ev_graph.specs.Events.{IsAccessOf, event, Covers}
use Rattle.ev_graph.specs.WellFormed.{write_ids, Gives}

-- the source may give byte k of the read: the start may, and so may a write that covers that byte, whatever its value
abbrev pub MayGive : List ThreadRun → Access → ℕ → Source → Type 0
MayGive threads r k Start = Unit {0}
MayGive threads r k (From w) = (a : Access) × IsAccessOf threads w a × (a.kind ≡ Write) × Covers (event a) (r.address + k)

-- what rf says of a byte: the read, and the source that is listed for the byte
pub record ByteOf (x : Execution) (b : ReadByte) : Type 0 where
  pub entry : ReadFrom
  pub listed : StandsIn x.rf entry
  pub named : entry.read ≡ b.read
  pub read : Access
  pub found : IsAccessOf x.threads b.read read
  pub source : Source
  pub here : slice_get entry.bytes b.byte ≡ Some source

-- The fault is not there: the source may give the byte; it gives the byte; the entry is a write that no earlier entry names; co has the write.
abbrev pub IsAbsent : (ℕ → Option Cell) → Execution → FormFault → Type 0
IsAbsent cells x (BadSource b) = (at : ByteOf x b) → MayGive x.threads at.read b.byte at.source
IsAbsent cells x (BadValue b) = (at : ByteOf x b) → Gives (start_at cells x.stacks) x.threads at.read b.byte at.source
IsAbsent cells x (CoEntry i) = (w : EventId) → slice_get x.co i ≡ Some w
    → StandsIn (write_ids x.threads) w × ((j : ℕ) → j < i → slice_get x.co j ≡ Some w → ⊥)
IsAbsent cells x (CoMissing w) = StandsIn x.co w

-- the two faults that byte k of a read may have, the source before the value
abbrev pub byte_faults : EventId → ℕ → List FormFault
byte_faults read k = BadSource (record { read = read; byte = k }) ∷ BadValue (record { read = read; byte = k }) ∷ []

-- the faults that an entry of rf may have, byte by byte
abbrev pub entry_faults : ReadFrom → List FormFault
entry_faults e = flat_map (byte_faults e.read) (range_with_len 0 (length e.bytes))

-- the faults that an execution may have, in order: of its reads, of the entries of co, and writes that co does not have
abbrev pub candidates : Execution → List FormFault
candidates x = (flat_map entry_faults x.rf ++ map CoEntry (range_with_len 0 (length x.co))) ++ map CoMissing (write_ids x.threads)

-- the first of the list that is not absent, where there is one
abbrev pub IsFirstPresent : {K : Type 0} → (K → Type 0) → List K → Option K → Type 0
IsFirstPresent Absent [] found = found ≡ None
IsFirstPresent Absent (k ∷ ks) found = ((Absent k → ⊥) × (found ≡ Some k)) ⊎ (Absent k × IsFirstPresent Absent ks found)

-- the first fault of an execution over these cells of segments
abbrev pub IsFirstFault : (ℕ → Option Cell) → Execution → Option FormFault → Type 0
IsFirstFault cells x found = IsFirstPresent (IsAbsent cells x) (candidates x) found
