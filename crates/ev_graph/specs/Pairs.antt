-- The relations between events (Alglave, Maranget, Tautschnig, TOPLAS 2014), byte by byte.
use Rattle.std.specs.Prelude.{◌≡◌, ◌≢◌, ◌<◌, ◌+◌, ℕ, List, slice_get, Some}
use Rattle.ev_graph.specs.declared.events.EventId.{EventId}
use Rattle.ev_graph.specs.declared.execution.EventPair.{EventPair}
use Rattle.ev_graph.specs.declared.execution.ReadFrom.{ReadFrom}
use Rattle.ev_graph.specs.declared.execution.Source.{Source}
use Rattle.ev_graph.specs.declared.execution.Source.TheVariants.{Start, From}
use Rattle.ev_graph.specs.Places.{StandsIn, Earlier}
use Rattle.ev_graph.specs.Events.{Event, IsRead, IsWrite, Covers, Overlap}

-- program order: a stands before b in one thread
pub record Po (a b : Event) : Type 0 where
  pub thread : a.id.thread ≡ b.id.thread
  pub order : a.id.index < b.id.index

-- program order of one location: the two have a byte in common
pub record PoLoc (a b : Event) : Type 0 where
  pub po : Po a b
  pub overlap : Overlap a b

-- the two are of different threads
abbrev pub External : Event → Event → Type 0
External a b = a.id.thread ≢ b.id.thread

-- the source of byte k of the read r
pub record SourceOf (rf : List ReadFrom) (r : Event) (k : ℕ) (source : Source) : Type 0 where
  pub entry : ReadFrom
  pub listed : StandsIn rf entry
  pub read : entry.read ≡ r.id
  pub byte : slice_get entry.bytes k ≡ Some source

-- reads-from: some byte of r comes from w
pub record Rf (rf : List ReadFrom) (w r : Event) : Type 0 where
  pub k : ℕ
  pub source : SourceOf rf r k (From w.id)

-- coherence: two writes that overlap, in the order of co
pub record Co (co : List EventId) (w v : Event) : Type 0 where
  pub first : IsWrite w
  pub second : IsWrite v
  pub earlier : Earlier co w.id v.id
  pub overlap : Overlap w v

-- w overwrites what comes from this source: the start byte always, and a write that is earlier in co
abbrev pub Overwrites : List EventId → Event → Source → Type 0
Overwrites co w Start = Unit {0}
Overwrites co w (From v) = Earlier co v w.id

-- from-reads: w writes some byte of r, and overwrites what r reads there
pub record Fr (rf : List ReadFrom) (co : List EventId) (r w : Event) : Type 0 where
  pub read : IsRead r
  pub write : IsWrite w
  pub k : ℕ
  pub within : k < r.size
  pub covers : Covers w (r.address + k)
  pub source : Source
  pub from : SourceOf rf r k source
  pub later : Overwrites co w source

-- the read and the write of one atomic instruction
abbrev pub Rmw : List EventPair → Event → Event → Type 0
Rmw rmw r w = StandsIn rmw (record { first = r.id; second = w.id })
