-- Coherence and from-reads as lanes: one for each byte and each thread whose writes are its targets.
use Rattle.std.specs.Prelude.{◌≡◌, ◌≢◌, ◌<◌, ◌+◌, ◌*◌, ℕ, Bool, true, List, length, Some, slice_get, ◌⊎◌}
use Rattle.ev_graph.specs.declared.events.Access.{Access}
use Rattle.ev_graph.specs.declared.events.EventId.{EventId}
use Rattle.ev_graph.specs.declared.execution.ReadFrom.{ReadFrom}
use Rattle.ev_graph.specs.declared.execution.Source.{Source}
use Rattle.ev_graph.specs.declared.execution.Source.TheVariants.{Start, From}
use Rattle.axiom_check.specs.declared.lanes.Slot.{Slot}
use Rattle.axiom_check.specs.Gains.{Below, BelowNumber}
use Rattle.topo.specs.declared.edge.Edge.{Edge}
use Rattle.axiom_check.specs.Numbers.{IsEdgeOf, IsNumbered}

-- the key of a place in the lane of this byte and this number below 32
abbrev pub key : ℕ → ℕ → ℕ → ℕ
key byte tag place = (byte * 32 + tag) * 4294967296 + place

-- the place in co from which on writes overwrite what comes from the source
abbrev pub IsFrom : List EventId → Source → ℕ → Type 0
IsFrom co Start place = place ≡ 0
IsFrom co (From w) place = (i : ℕ) × (slice_get co i ≡ Some w) × (place ≡ i + 1)

-- the source is a write of co that has a number
abbrev pub IsKnown : List Access → List EventId → Source → Type 0
IsKnown all co Start = Unit {0}
IsKnown all co (From w) = (i : ℕ) × (n : ℕ) × (a : Access) × (slice_get co i ≡ Some w) × IsNumbered all w n a

-- for the first k entries of co: behind each write's number stands the place after it
pub record ArePlaces (all : List Access) (co : List EventId) (k : ℕ) (places : List ℕ) : Type 0 where
  pub size : length places ≡ length all
  pub told : (i : ℕ) (id : EventId) (n : ℕ) (a : Access) → i < k → slice_get co i ≡ Some id → IsNumbered all id n a → slice_get places n ≡ Some (i + 1)

-- the slot of an event at one byte, before the writes of thread t from a place on
abbrev pub IsSourceTo : Bool → ℕ → ℕ → ℕ → ℕ → ℕ → Slot → Type 0
IsSourceTo within thread n byte place t slot = ((within ≡ true) ⊎ (t ≢ thread)) × (slot ≡ record { key = key byte t place; event = n })

-- the slots of an event at one byte
abbrev pub IsSourceAt : Bool → ℕ → ℕ → ℕ → ℕ → ℕ → Slot → Type 0
IsSourceAt within threads thread n byte place slot = BelowNumber (IsSourceTo within thread n byte place) threads slot

-- the slots of a write at all its bytes, as a source
abbrev pub IsSourceOf : Bool → ℕ → ℕ → ℕ → Access → Slot → Type 0
IsSourceOf within threads place n a slot = BelowNumber (λ k. IsSourceAt within threads a.id.thread n (a.address + k) place) a.size slot

-- the slots of a write at all its bytes, as a target
abbrev pub IsTargetOf : ℕ → ℕ → Access → Slot → Type 0
IsTargetOf place n a slot = BelowNumber (λ k s. s ≡ record { key = key (a.address + k) a.id.thread place; event = n }) a.size slot

-- there is an access with this id, and the slot is one of its
abbrev pub IsOfNumbered : List Access → EventId → (ℕ → Access → Slot → Type 0) → Slot → Type 0
IsOfNumbered all id F slot = (n : ℕ) × (a : Access) × IsNumbered all id n a × F n a slot

abbrev pub IsCoSource : List Access → Bool → ℕ → ℕ → EventId → Slot → Type 0
IsCoSource all within threads i id slot = IsOfNumbered all id (IsSourceOf within threads (i + 1)) slot

abbrev pub IsCoTarget : List Access → ℕ → EventId → Slot → Type 0
IsCoTarget all i id slot = IsOfNumbered all id (IsTargetOf i) slot

-- the slots of one byte of a read
abbrev pub IsReadSource : List EventId → Bool → ℕ → ℕ → Access → ℕ → Source → Slot → Type 0
IsReadSource co within threads n a k source slot = (place : ℕ) × IsFrom co source place × IsSourceAt within threads a.id.thread n (a.address + k) place slot

-- the slots of an entry of rf
abbrev pub IsEntrySource : List Access → List EventId → Bool → ℕ → ℕ → ReadFrom → Slot → Type 0
IsEntrySource all co within threads e entry slot = IsOfNumbered all entry.read (λ n a. Below entry.bytes (IsReadSource co within threads n a) (length entry.bytes)) slot

-- the edge of rf for one byte of a read, from a write of another thread, or of any where `within` is true
abbrev pub IsByteEdge : List Access → Bool → EventId → ℕ → Source → Edge → Type 0
IsByteEdge all within read k Start edge = ⊥
IsByteEdge all within read k (From w) edge = ((within ≡ true) ⊎ (w.thread ≢ read.thread)) × IsEdgeOf all w read edge

-- the edges of an entry of rf
abbrev pub IsEntryEdge : List Access → Bool → ℕ → ReadFrom → Edge → Type 0
IsEntryEdge all within e entry edge = Below entry.bytes (IsByteEdge all within entry.read) (length entry.bytes) edge

-- each source that rf lists is the start or a write of co that has a number
abbrev pub AreSourcesKnown : List Access → List EventId → List ReadFrom → Type 0
AreSourcesKnown all co rf = (e : ℕ) (entry : ReadFrom) (k : ℕ) (source : Source) → slice_get rf e ≡ Some entry → slice_get entry.bytes k ≡ Some source → IsKnown all co source
