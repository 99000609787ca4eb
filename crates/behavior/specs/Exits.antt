-- Where a thread comes to that leaves a block, in a program with these return sites and tables.
use Rattle.std.specs.Prelude.{ℕ, ◌==◌, Bool, Option, Some, None, if◌then◌else◌}
use Rattle.ev_graph.specs.declared.events.End.TheVariants.{Halted, Trap}
use Rattle.ev_graph.specs.declared.events.TrapKind.{TrapKind}
use Rattle.ev_graph.specs.declared.events.TrapKind.TheVariants.{BadReturn, BadJump}
use Rattle.behavior.specs.Tree.{Tree, Gives, Next, Goes, Stops}
use Rattle.behavior.specs.Leaving.{Target, ToBlock, ToReturn, ToEntry, Left}

-- The ways into blocks that values choose: the addresses to which a return may go, and the entries of tables, each by its
-- table's name and a number.
pub record Exits : Type 0 where
  pub is_site : ℕ → Bool
  pub entry : (table number : ℕ) → Option ℕ

-- the thread goes on at the address, if there is one, or ends by a trap
abbrev pub or_trap : TrapKind → Option ℕ → Next ℕ
or_trap kind None = Stops (Trap kind)
or_trap kind (Some address) = Goes address

-- The address to which a target leads, or how it ends the thread: a return to 0 halts, one to a return site goes there, and
-- any other is no return.
abbrev pub resolved : Exits → Target → Next ℕ
resolved exits (ToBlock address) = Goes address
resolved exits (ToReturn value) = if value == 0 then Stops Halted else or_trap BadReturn (if exits.is_site value then Some value else None)
resolved exits (ToEntry table number) = or_trap BadJump (exits.entry table number)

-- a thread between two blocks: the address to which it has come, and what it holds
pub record Arrived (S : Type 0) : Type 0 where
  pub at : ℕ
  pub state : S

-- a state arrives at an address, or the thread ends
abbrev pub arrives : {S : Type 0} → S → Next ℕ → Next (Arrived S)
arrives s (Goes address) = Goes (record { at = address; state = s })
arrives s (Stops end) = Stops end

-- the thread comes to where a block has left to
abbrev pub lands : {S : Type 0} → Exits → Left S → Tree (Next (Arrived S))
lands exits left = Gives (arrives left.state (resolved exits left.target))
