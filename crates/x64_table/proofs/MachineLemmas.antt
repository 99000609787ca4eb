-- What a step does is decided by the values that it reads and takes in.
use Rattle.std.proofs.Common.{ℕ, ◌==◌, Bool, true, false, Option, Some, None}
use Rattle.std.specs.Prelude.{if◌then◌else◌}
use Rattle.ev_graph.specs.declared.events.End.TheVariants.{Halted}
use Rattle.ev_graph.specs.declared.events.TrapKind.TheVariants.{BadReturn}
use Rattle.behavior.specs.Tree.{Tree, Gives, Next, Stops, ◌then◌}
use Rattle.behavior.specs.Acts.{Permission, goes, traps}
use Rattle.behavior.specs.Explained.{IsOpen}
use Rattle.behavior.proofs.ActsLemmas.{open_then}
use Rattle.x64_syntax.specs.declared.placed.Placed.{Placed}
use Rattle.x64_table.specs.State.{Thread}
use Rattle.x64_table.specs.Rows.{Exit, State, Return, Indexed, row_of}
use Rattle.x64_table.specs.Machine.{Code, at_entry, resolve, x64_take, StepsAreOpen}
use Rattle.x64_table.proofs.OpenLemmas.{rows_open}

either : (b : Bool) (t u : Tree (Next Thread)) → IsOpen t → IsOpen u → IsOpen (if b then t else u)
either true t u first second = first
either false t u first second = second

entry_open : (target : Option ℕ) (t : Thread) → IsOpen (at_entry target t)
entry_open None t = tt
entry_open (Some target) t = tt

resolve_open : (is_site : ℕ → Bool) (entry : ℕ → Option ℕ) (exit : Exit) → IsOpen (resolve is_site entry exit)
resolve_open is_site entry (State t) = tt
resolve_open is_site entry (Return t target) =
    either (target == 0) (Gives (Stops Halted)) (if is_site target then goes (record t { at = target }) else traps BadReturn) tt
    (either (is_site target) (goes (record t { at = target })) (traps BadReturn) tt tt)
resolve_open is_site entry (Indexed t index) = entry_open (entry index) t

take_open : (may : Permission) (code : Code) (p : Option Placed) (s : Thread) → IsOpen (x64_take may code p s)
take_open may code None s = tt
take_open may code (Some p) s =
    open_then (row_of may p.instr p.length p.flow s) (resolve code.is_site (code.entry s.at)) (rows_open may p.instr p.length p.flow s) (resolve_open code.is_site (code.entry s.at))

-- the values that a step reads and takes in decide what it does
pub steps_open : StepsAreOpen
steps_open may code s = take_open may code (code.placed s.at) s
