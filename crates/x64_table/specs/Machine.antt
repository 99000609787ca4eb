-- The machine that takes placed instructions one after another, and where it goes from an instruction's exit.
use Rattle.std.specs.Prelude.{ℕ, ◌==◌, Bool, false, Option, Some, None, if◌then◌else◌}
use Rattle.ev_graph.specs.declared.events.End.TheVariants.{Halted}
use Rattle.ev_graph.specs.declared.events.TrapKind.TheVariants.{BadReturn, BadJump}
use Rattle.behavior.specs.Tree.{Tree, Gives, Begins, Next, Stops, ◌then◌}
use Rattle.behavior.specs.Acts.{Permission, goes, traps}
use Rattle.behavior.specs.Explained.{IsOpen}
use Rattle.x64_syntax.specs.declared.placed.Placed.{Placed}
use Rattle.x64_table.specs.State.{Thread}
use Rattle.x64_table.specs.Rows.{Exit, State, Return, Indexed, row_of}

-- What code says to a thread: the instruction that stands at an address, if there is one; whether an address is a return
-- site; and the entry with an index of the table of the jump at an address, where the table has one.
pub record Code : Type 0 where
  pub placed : ℕ → Option Placed
  pub is_site : ℕ → Bool
  pub entry : (jump index : ℕ) → Option ℕ

-- in a straight line no call stands, so no address is a return site, and no table
abbrev pub no_sites : ℕ → Bool
no_sites n = false

abbrev pub no_entries : ℕ → Option ℕ
no_entries index = None

-- code without calls and tables
abbrev pub straight_code : (placed : ℕ → Option Placed) → Code
straight_code placed = record { placed = placed; is_site = no_sites; entry = λ jump. no_entries }

-- the thread goes on at a table's entry, where there is one
abbrev pub at_entry : Option ℕ → Thread → Tree (Next Thread)
at_entry None t = traps BadJump
at_entry (Some target) t = goes (record t { at = target })

-- Where the thread goes from an exit, with these return sites and these entries of the jump's table. A return to 0 ends
-- it, one to a return site goes there, and any other is no return.
abbrev pub resolve : (is_site : ℕ → Bool) → (entry : ℕ → Option ℕ) → Exit → Tree (Next Thread)
resolve is_site entry (State t) = goes t
resolve is_site entry (Return t target) =
    if target == 0 then Gives (Stops Halted) else (if is_site target then goes (record t { at = target }) else traps BadReturn)
resolve is_site entry (Indexed t index) = at_entry (entry index) t

-- the instruction is taken, if there is one; where there is none the thread ends
abbrev pub x64_take : Permission → Code → Option Placed → Thread → Tree (Next Thread)
x64_take may code None s = traps BadJump
x64_take may code (Some p) s = Begins (row_of may p.instr p.length p.flow s then resolve code.is_site (code.entry s.at))

-- One step of a thread.
abbrev pub x64_step : Permission → Code → Thread → Tree (Next Thread)
x64_step may code s = x64_take may code (code.placed s.at) s

-- What a step does is decided by the values that it reads and takes in.
abbrev pub StepsAreOpen : Type 0
StepsAreOpen = (may : Permission) (code : Code) (s : Thread) → IsOpen (x64_step may code s)
