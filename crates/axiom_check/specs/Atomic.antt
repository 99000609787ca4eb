-- The axiom Atomic: what breaks it, and which of the triples that break it is the first.
use Rattle.std.specs.Prelude.{◌≡◌, ◌≢◌, ◌<◌, ◌+◌, ℕ, List, length, slice_get, true, Option, Some, None, ◌⊎◌}
use Rattle.std.specs.Option.{option_map}
use Rattle.ev_graph.specs.declared.events.Access.{Access}
use Rattle.ev_graph.specs.declared.events.AccessKind.TheVariants.{Read, Write}
use Rattle.ev_graph.specs.declared.events.EventId.{EventId}
use Rattle.ev_graph.specs.declared.execution.Execution.{Execution}
use Rattle.ev_graph.specs.declared.execution.ReadFrom.{ReadFrom}
use Rattle.ev_graph.specs.declared.execution.Source.{Source}
use Rattle.ev_graph.specs.declared.execution.Source.TheVariants.{From}
use Rattle.ev_graph.specs.Events.{Event, event, IsIn, Covers, Overlap}
use Rattle.ev_graph.specs.Pairs.{External, Fr, Co, Rmw, Overwrites}
use Rattle.ev_graph.specs.Places.{Earlier, IsDistinct}
use Rattle.axiom_check.specs.declared.atomic.Triple.{Triple}
use Rattle.axiom_check.specs.Bytes.{ArePlaces, IsKnown}
use Rattle.axiom_check.specs.Numbers.{IsNumbered}

-- an access stands before another: in an earlier thread, or earlier in the same one
abbrev pub Before : EventId → EventId → Type 0
Before d e = (d.thread < e.thread) ⊎ ((d.thread ≡ e.thread) × (d.index < e.index))

-- Three events break the axiom: the two halves of an atomic instruction, and a write of another thread that overwrites what the read finds and is
-- overwritten by the instruction's write.
pub record Breaks (x : Execution) (t : Triple) : Type 0 where
  pub read : Event
  pub between : Event
  pub write : Event
  pub read_in : IsIn x.threads read
  pub between_in : IsIn x.threads between
  pub write_in : IsIn x.threads write
  pub pair : Rmw x.rmw read write
  pub from_other : External read between
  pub overwrites : Fr x.rf x.co read between
  pub to_other : External between write
  pub overwritten : Co x.co between write
  pub named : t ≡ record { read = read.id; between = between.id; write = write.id }

-- a triple that breaks the axiom, the least by its read and then by the write between
pub record IsLeastTriple (x : Execution) (t : Triple) : Type 0 where
  pub breaks : Breaks x t
  pub least : (s : Triple) → Breaks x s → Before s.read t.read ⊎ ((s.read ≡ t.read) × Before s.between t.between) → ⊥

-- what is known of a table of places in co: co has no write twice, and it has each write and each source of these bytes
pub record AreTold (all : List Access) (co : List EventId) (places : List ℕ) (bytes : List Source) : Type 0 where
  pub once : IsDistinct co
  pub listed : ArePlaces all co (length co) places
  pub sources : (k : ℕ) (source : Source) → slice_get bytes k ≡ Some source → IsKnown all co source
  pub writes : (n : ℕ) (a : Access) → slice_get all n ≡ Some a → a.kind ≡ Write → IsKnown all co (From a.id)

-- the accesses are of 16 threads at most
abbrev pub AreFew : List Access → Type 0
AreFew all = (n : ℕ) (a : Access) → slice_get all n ≡ Some a → a.id.thread < 16

-- at byte k of the read r, which has this source, w overwrites what r finds
abbrev pub OverwritesByte : List EventId → Access → Access → ℕ → Source → Type 0
OverwritesByte co r w k source = Covers (event w) (r.address + k) × Overwrites co (event w) source

-- at one of these bytes of the read r, w overwrites what r finds
abbrev pub OverwritesSome : List EventId → List Source → Access → Access → Type 0
OverwritesSome co bytes r w = (k : ℕ) × (source : Source) × (slice_get bytes k ≡ Some source) × OverwritesByte co r w k source

-- w is a write of another thread than r, and has a byte in common with v
pub record IsRival (r v w : Access) : Type 0 where
  pub writes : w.kind ≡ Write
  pub other : w.id.thread ≢ r.id.thread
  pub overlap : Overlap (event w) (event v)

-- w comes between the halves r and v of an atomic instruction
pub record ComesBetween (co : List EventId) (bytes : List Source) (r v w : Access) : Type 0 where
  pub rival : IsRival r v w
  pub earlier : Earlier co w.id v.id
  pub over : OverwritesSome co bytes r w

-- r and v are the halves of one atomic instruction
pub record AreHalves (r v : Access) : Type 0 where
  pub thread : r.id.thread ≡ v.id.thread
  pub next : v.id.index ≡ r.id.index + 1
  pub reads : r.kind ≡ Read
  pub first_locked : r.locked ≡ true
  pub writes : v.kind ≡ Write
  pub second_locked : v.locked ≡ true

-- an access that comes between the halves r and v, named with them
abbrev pub triple_with : Access → Access → Access → Triple
triple_with r v w = record { read = r.id; between = w.id; write = v.id }

-- the read of this entry of rf and the access after it are halves of an atomic instruction, and the access with number l comes between
pub record BreaksAt (all : List Access) (co : List EventId) (entry : ReadFrom) (l : ℕ) (t : Triple) : Type 0 where
  pub number : ℕ
  pub r : Access
  pub v : Access
  pub w : Access
  pub read_is : IsNumbered all entry.read number r
  pub write_here : slice_get all (number + 1) ≡ Some v
  pub between_here : slice_get all l ≡ Some w
  pub halves : AreHalves r v
  pub between : ComesBetween co entry.bytes r v w
  pub named : t ≡ triple_with r v w

-- the first access of the list with this property, where there is one
abbrev pub IsFirstAccess : List Access → (Access → Type 0) → Option Access → Type 0
IsFirstAccess all P None = (n : ℕ) (a : Access) → slice_get all n ≡ Some a → P a → ⊥
IsFirstAccess all P (Some a) = (n : ℕ) × (slice_get all n ≡ Some a) × P a × ((m : ℕ) (b : Access) → m < n → slice_get all m ≡ Some b → P b → ⊥)

-- the first access that comes between the halves r and v, named with them, where there is one
abbrev pub IsTripleOf : List Access → List EventId → List Source → Access → Access → Option Triple → Type 0
IsTripleOf all co bytes r v found = (first : Option Access) × IsFirstAccess all (ComesBetween co bytes r v) first × (found ≡ option_map (triple_with r v) first)

-- none comes between the halves of the instruction of this entry's read
abbrev pub IsWhole : List Access → List EventId → ReadFrom → Type 0
IsWhole all co entry = (l : ℕ) (t : Triple) → BreaksAt all co entry l t → ⊥

-- of the accesses that come between, the triple names the first
abbrev pub IsFirstBetween : List Access → List EventId → ReadFrom → Triple → Type 0
IsFirstBetween all co entry t = (l : ℕ) × BreaksAt all co entry l t × ((m : ℕ) (s : Triple) → m < l → BreaksAt all co entry m s → ⊥)

-- the first access that comes between the halves of the instruction of this entry's read, where there is one
abbrev pub IsTripleAt : List Access → List EventId → ReadFrom → Option Triple → Type 0
IsTripleAt all co entry None = IsWhole all co entry
IsTripleAt all co entry (Some t) = IsFirstBetween all co entry t

-- what comes between the halves of the first instruction that is not whole, where there is one
abbrev pub IsFirstTriple : List Access → List EventId → List ReadFrom → Option Triple → Type 0
IsFirstTriple all co rf None = (e : ℕ) (entry : ReadFrom) → slice_get rf e ≡ Some entry → IsWhole all co entry
IsFirstTriple all co rf (Some t) = (e : ℕ) × (entry : ReadFrom) × (slice_get rf e ≡ Some entry) × IsFirstBetween all co entry t
    × ((d : ℕ) (other : ReadFrom) → d < e → slice_get rf d ≡ Some other → IsWhole all co other)
