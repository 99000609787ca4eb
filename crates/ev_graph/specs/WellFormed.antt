-- Well-formed executions: each byte that is read has a source with its value, and co is an order of all writes.
use Rattle.std.specs.Prelude.{◌≡◌, ◌≤◌, ◌<◌, ◌+◌, ◌-◌, ◌/◌, ◌%◌, ◌^◌, ◌↔◌, ℕ, Bool, true, false, List, map, filter, flat_map, length, slice_get, Option, Some, IsSome}
use Rattle.ev_graph.specs.declared.events.EventId.{EventId}
use Rattle.ev_graph.specs.declared.events.Access.{Access}
use Rattle.ev_graph.specs.declared.events.AccessKind.{AccessKind}
use Rattle.ev_graph.specs.declared.events.AccessKind.TheVariants.{Read, Write}
use Rattle.ev_graph.specs.declared.execution.EventPair.{EventPair}
use Rattle.ev_graph.specs.declared.execution.Execution.{Execution}
use Rattle.ev_graph.specs.declared.execution.ReadFrom.{ReadFrom}
use Rattle.ev_graph.specs.declared.execution.Source.{Source}
use Rattle.ev_graph.specs.declared.execution.Source.TheVariants.{Start, From}
use Rattle.ev_graph.specs.declared.execution.ThreadRun.{ThreadRun}
use Rattle.ev_graph.specs.Memory.{Cell}
use Rattle.ev_graph.specs.Start.{start_at}
use Rattle.ev_graph.specs.Places.{StandsIn, HasEachOnce}
use Rattle.ev_graph.specs.Events.{accesses, items_of, IsAccessOf, event, Covers, LockedPairAt}

abbrev pub is_read : AccessKind → Bool
is_read Read = true
is_read Write = false

abbrev pub is_write : AccessKind → Bool
is_write Read = false
is_write Write = true

-- the accesses of all threads, thread by thread
abbrev pub all_accesses : List ThreadRun → List Access
all_accesses threads = flat_map (λ thread. accesses thread.items) threads

-- the ids of the reads, by thread and then by number
abbrev pub read_ids : List ThreadRun → List EventId
read_ids threads = map (λ a. a.id) (filter (λ a. is_read a.kind) (all_accesses threads))

-- the ids of the writes, by thread and then by number
abbrev pub write_ids : List ThreadRun → List EventId
write_ids threads = map (λ a. a.id) (filter (λ a. is_write a.kind) (all_accesses threads))

-- byte k of a value, counted from the least
abbrev pub byte_of : ℕ → ℕ → ℕ
byte_of value k = value / 256 ^ k % 256

-- each access has the id of its thread and of its number there
abbrev pub IsIndexed : List ThreadRun → Type 0
IsIndexed threads = (t n : ℕ) (a : Access) → slice_get (accesses (items_of threads t)) n ≡ Some a → a.id ≡ record { thread = t; index = n }

-- rf has one entry for each read, in order, with as many sources as the read has bytes
pub record HasEntries (x : Execution) : Type 0 where
  pub reads : map (λ e. e.read) x.rf ≡ read_ids x.threads
  pub sizes : (e : ReadFrom) (a : Access) → StandsIn x.rf e → IsAccessOf x.threads e.read a → length e.bytes ≡ a.size

-- the two are a locked read and the locked write after it in one thread
abbrev pub IsLockedPair : List ThreadRun → EventPair → Type 0
IsLockedPair threads p = (p.first.thread ≡ p.second.thread) × LockedPairAt (items_of threads p.first.thread) p.first.index p.second.index

-- rmw lists the locked pairs and nothing else
abbrev pub HasLockedPairs : Execution → Type 0
HasLockedPairs x = (p : EventPair) → StandsIn x.rmw p ↔ IsLockedPair x.threads p

-- the ids, the entries of rf and the locked pairs are what the threads' runs say
pub record IsShaped (x : Execution) : Type 0 where
  pub indexed : IsIndexed x.threads
  pub entries : HasEntries x
  pub pairs : HasLockedPairs x

-- the source gives byte k of the read: the byte of memory at the start, or a write that covers it, with that value
abbrev pub Gives : (ℕ → Option ℕ) → List ThreadRun → Access → ℕ → Source → Type 0
Gives start threads r k Start = start (r.address + k) ≡ Some (byte_of r.value k)
Gives start threads r k (From w) = (a : Access) × IsAccessOf threads w a × (a.kind ≡ Write) × Covers (event a) (r.address + k)
    × (byte_of a.value (r.address + k - a.address) ≡ byte_of r.value k)

-- each source that rf lists gives the byte that is read
abbrev pub HasSources : (ℕ → Option ℕ) → Execution → Type 0
HasSources start x = (e : ReadFrom) (r : Access) (k : ℕ) (s : Source) → StandsIn x.rf e → IsAccessOf x.threads e.read r
    → slice_get e.bytes k ≡ Some s → Gives start x.threads r k s

-- a well-formed execution over these cells of segments
pub record WellFormed (cells : ℕ → Option Cell) (x : Execution) : Type 0 where
  pub shaped : IsShaped x
  pub sources : HasSources (start_at cells x.stacks) x
  pub co : HasEachOnce x.co (write_ids x.threads)

-- the access ends within the addresses of 64 bits
abbrev pub IsAddressable : Access → Type 0
IsAddressable a = a.address + a.size ≤ 2 ^ 64

-- each access of the threads has this property
abbrev pub EachAccess : (Access → Type 0) → List ThreadRun → Type 0
EachAccess P threads = (t n : ℕ) (a : Access) → slice_get (accesses (items_of threads t)) n ≡ Some a → P a

-- each byte of the access lies in memory
abbrev pub IsInMemory : (ℕ → Option ℕ) → Access → Type 0
IsInMemory start a = (k : ℕ) → k < a.size → IsSome (start (a.address + k))
