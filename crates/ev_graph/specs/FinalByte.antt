-- The byte that an address holds at the end of an execution.
use Rattle.std.specs.Prelude.{◌≡◌, ◌<◌, ◌-◌, ℕ, List, slice_get, Option, Some, None, ◌⊎◌}
use Rattle.ev_graph.specs.declared.events.EventId.{EventId}
use Rattle.ev_graph.specs.declared.events.Access.{Access}
use Rattle.ev_graph.specs.declared.events.AccessKind.TheVariants.{Write}
use Rattle.ev_graph.specs.declared.execution.Execution.{Execution}
use Rattle.ev_graph.specs.declared.execution.ThreadRun.{ThreadRun}
use Rattle.ev_graph.specs.Memory.{Cell}
use Rattle.ev_graph.specs.Start.{start_at}
use Rattle.ev_graph.specs.Events.{IsAccessOf, event, Covers}
use Rattle.ev_graph.specs.WellFormed.{byte_of}

-- this access is a write that covers the address, and this is its byte there
abbrev pub Writes : Access → ℕ → ℕ → Type 0
Writes a n byte = (a.kind ≡ Write) × Covers (event a) n × (byte ≡ byte_of a.value (n - a.address))

-- the access with this id is a write that covers the address, and this is its byte there
abbrev pub GivesByte : List ThreadRun → EventId → ℕ → ℕ → Type 0
GivesByte threads w n byte = (a : Access) × IsAccessOf threads w a × Writes a n byte

-- the byte that the last entry of co to cover the address gives
pub record LastByte (threads : List ThreadRun) (co : List EventId) (n byte : ℕ) : Type 0 where
  pub i : ℕ
  pub w : EventId
  pub here : slice_get co i ≡ Some w
  pub gives : GivesByte threads w n byte
  pub last : (j : ℕ) (v : EventId) (other : ℕ) → i < j → slice_get co j ≡ Some v → GivesByte threads v n other → ⊥

-- no entry of co covers the address
abbrev pub HasNoByte : List ThreadRun → List EventId → ℕ → Type 0
HasNoByte threads co n = (j : ℕ) (v : EventId) (byte : ℕ) → slice_get co j ≡ Some v → GivesByte threads v n byte → ⊥

-- the byte of the last write of co that covers the address, and else the byte of the start, where there is one
abbrev pub IsFinalByte : (ℕ → Option Cell) → Execution → ℕ → Option ℕ → Type 0
IsFinalByte cells x n found = ((byte : ℕ) × LastByte x.threads x.co n byte × (found ≡ Some byte))
    ⊎ (HasNoByte x.threads x.co n × (found ≡ start_at cells x.stacks n))

-- the byte that the first m entries of co give, where they give one
abbrev pub IsLastBefore : List ThreadRun → List EventId → ℕ → ℕ → Option ℕ → Type 0
IsLastBefore threads co n m (Some byte) = (i : ℕ) × (w : EventId) × (i < m) × (slice_get co i ≡ Some w) × GivesByte threads w n byte
    × ((j : ℕ) (v : EventId) (other : ℕ) → i < j → j < m → slice_get co j ≡ Some v → GivesByte threads v n other → ⊥)
IsLastBefore threads co n m None = (j : ℕ) (v : EventId) (byte : ℕ) → j < m → slice_get co j ≡ Some v → GivesByte threads v n byte → ⊥
